-- The buckets of others.
use Rattle.std.proofs.Common.{◌≡◌, ◌∙◌, ◌≤◌, ℕ, true, false, List, [], ◌∷◌, Option, None, Result, Ok, Err, IfOk, OnOk}
use Rattle.std.proofs.Common.{length, take, refl, ap}
use Rattle.std.proofs.lemmas.List.{take_all}
use Rattle.rtp_codec.specs.declared.address.Address.{Address}
use Rattle.rtp_codec.specs.Address.{same_address}
use Rattle.rate_limiter.specs.declared.bucket.Bucket.{Bucket}
use Rattle.rate_limiter.specs.Buckets.{bucket_at, or_opened, other_buckets, refilled, opened, used}
use Rattle.rate_limiter.specs.Steps.{spend, buckets_after, may_spend}
use Rattle.rate_limiter.proofs.KeyedLemmas.{same_itself}
use Rattle.worked_front.specs.Refilled.{with_406}

-- all buckets, where the address has none
others_stay : (address : Address) (buckets : List Bucket) → bucket_at address buckets ≡ None
    → other_buckets address buckets ≡ buckets
others_stay address [] h = refl
others_stay address (a ∷ rest) h =
    (elim (same_address a.address address)
    as (λ y. same_address a.address address ≡ y → other_buckets address (a ∷ rest) ≡ a ∷ rest) [
      | true ↦ λ t. let h' = rw t at h in cc
      | false ↦ λ t.
          let h' : bucket_at address rest ≡ None = rw t at h in
          rw t (ap (λ (l : List Bucket). a ∷ l) (others_stay address rest h'))
    ]) refl

-- an address without a bucket refills: its new bucket stands before the others
pub entered : (octets : ℕ) (address : Address) (buckets : List Bucket) → bucket_at address buckets ≡ None
    → used (refilled octets (or_opened address (bucket_at address buckets))) buckets
    ≡ refilled octets (opened address) ∷ take 1023 buckets
entered octets address buckets h =
    ap (λ (o : Option Bucket). used (refilled octets (or_opened address o)) buckets) h
    ∙ ap (λ (l : List Bucket). refilled octets (opened address) ∷ take 1023 l) (others_stay address buckets h)

pub all_stay : (a : Bucket) (buckets : List Bucket) → length buckets ≤ 1023 → a ∷ take 1023 buckets ≡ a ∷ buckets
all_stay a buckets few = ap (λ (l : List Bucket). a ∷ l) (take_all 1023 buckets few)

-- of 406 octets none are left once 406 were spent
pub none_left : (a : Address) → may_spend a 1 (buckets_after (spend a 406) (with_406 a)) ≡ false
none_left a = rw (same_itself a) (rw (same_itself a) refl)

-- ---- results

pub from_fact : {T E : Type 0} {Q R : T → Type 0} (r : Result T E) → IfOk r Q → ((x : T) → Q x → R x) → IfOk r R
from_fact (Ok x) q f = f x q
from_fact (Err e) q f = tt

pub when_good : {T E P Q : Type 0} (r : Result T E) → OnOk r P → (P → Q) → OnOk r Q
when_good (Ok x) p f = f p
when_good (Err e) p f = tt
