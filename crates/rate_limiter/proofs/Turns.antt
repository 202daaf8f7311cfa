-- What a use does to the bucket of an address.
use Rattle.std.proofs.Common.{◌≡◌, ℕ, zero, suc, ◌-◌, true, false, if◌then◌else◌, List, [], ◌∷◌, take, Option, None}
use Rattle.std.proofs.Common.{Some, IfSome, refl, ap, ◌∙◌, subst}
use Rattle.rtp_codec.specs.declared.address.Address.{Address}
use Rattle.rtp_codec.specs.Address.{same_address}
use Rattle.rate_limiter.specs.declared.bucket.Bucket.{Bucket}
use Rattle.rate_limiter.specs.Buckets.{bucket_at, bucket_of, or_opened, other_buckets, used, most_addresses}
use Rattle.rate_limiter.proofs.KeyedLemmas.{same_address_is, same_itself}

pub address_at : (address : Address) (buckets : List Bucket) (a : Bucket) → bucket_at address buckets ≡ Some a
    → a.address ≡ address
address_at address [] a h = cc
address_at address (b ∷ rest) a h =
    (elim (same_address b.address address) as (λ y. same_address b.address address ≡ y → a.address ≡ address) [
      | true ↦ λ t.
          let h' = rw t at h in
          let e : b ≡ a = cc in subst (λ (x : Bucket). x.address ≡ address) e (same_address_is b.address address t)
      | false ↦ λ t. address_at address rest a (rw t at h)
    ]) refl

pub address_of : (address : Address) (buckets : List Bucket) → (bucket_of address buckets).address ≡ address
address_of address buckets =
    (elim (bucket_at address buckets)
    as (λ o. bucket_at address buckets ≡ o → (or_opened address o).address ≡ address) [
      | None ↦ λ h. refl
      | Some a ↦ λ h. address_at address buckets a h
    ]) refl

pub address_found : (address : Address) (buckets : List Bucket)
    → IfSome (bucket_at address buckets) (λ a. a.address ≡ address)
address_found address buckets =
    (elim (bucket_at address buckets) as (λ o. bucket_at address buckets ≡ o → IfSome o (λ a. a.address ≡ address)) [
      | None ↦ λ h. tt
      | Some a ↦ λ h. address_at address buckets a h
    ]) refl

-- its own bucket is the one that was used
pub own : (x : Bucket) (address : Address) (buckets : List Bucket) → same_address x.address address ≡ true
    → bucket_at address (used x buckets) ≡ Some x
own x address buckets t = rw t refl

pub own_at : (address : Address) (x : Bucket) (buckets : List Bucket) → x.address ≡ address
    → bucket_at address (used x buckets) ≡ Some x
own_at address x buckets e =
    own x address buckets (ap (λ (a : Address). same_address a address) e ∙ same_itself address)

-- the bucket stayed, or it is gone
abbrev pub IsKept : Option Bucket → Option Bucket → Type 0
IsKept o None = Unit {0}
IsKept o (Some a) = o ≡ Some a

kept-take : (address : Address) (n : ℕ) (buckets : List Bucket)
    → IsKept (bucket_at address buckets) (bucket_at address (take n buckets))
kept-take address zero buckets = tt
kept-take address (suc n) [] = tt
kept-take address (suc n) (a ∷ rest) =
    (elim (same_address a.address address) as (λ y.
    IsKept (if y then Some a else bucket_at address rest) (if y then Some a else bucket_at address (take n rest))) [
      | true ↦ refl
      | false ↦ kept-take address n rest
    ])

at-without : (other address : Address) (buckets : List Bucket) → same_address other address ≡ false
    → bucket_at address (other_buckets other buckets) ≡ bucket_at address buckets
at-without other address [] f = refl
at-without other address (a ∷ rest) f =
    (elim (same_address a.address other) as (λ y.
    same_address a.address other ≡ y
    → bucket_at address (other_buckets other (a ∷ rest)) ≡ bucket_at address (a ∷ rest)) [
      | true ↦ λ t.
          let not_it : same_address a.address address ≡ false =
          ap (λ (b : Address). same_address b address) (same_address_is a.address other t) ∙ f in
          rw t (rw not_it refl)
      | false ↦ λ t.
          rw t ((elim (same_address a.address address) as (λ y.
          (if y then Some a else bucket_at address (other_buckets other rest))
          ≡ (if y then Some a else bucket_at address rest)) [
            | true ↦ refl
            | false ↦ at-without other address rest f
          ]))
    ]) refl

-- the bucket of another address stays, or it is gone
pub others : (x : Bucket) (address : Address) (buckets : List Bucket) → same_address x.address address ≡ false
    → IsKept (bucket_at address buckets) (bucket_at address (used x buckets))
others x address buckets f =
    let at : bucket_at address (other_buckets x.address buckets) ≡ bucket_at address buckets =
    at-without x.address address buckets f in
    rw f (subst
    (λ (o : Option Bucket). IsKept o (bucket_at address (take (most_addresses - 1) (other_buckets x.address buckets))))
    at (kept-take address (most_addresses - 1) (other_buckets x.address buckets)))
