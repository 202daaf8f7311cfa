-- Tokens over steps.
use Rattle.std.proofs.Common.{◌≡◌, ℕ, ◌+◌, ◌*◌, ◌≤◌, true, false, ◌&&◌, if◌then◌else◌, List, [], ◌∷◌, Option, None}
use Rattle.std.proofs.Common.{Some, refl, sym, ap, ◌∙◌, subst, arith}
use Rattle.std.specs.Option.{is_some}
use Rattle.std.specs.Prelude.{not}
use Rattle.rtp_codec.specs.declared.address.Address.{Address}
use Rattle.rtp_codec.specs.Address.{same_address}
use Rattle.rate_limiter.specs.declared.bucket.Bucket.{Bucket}
use Rattle.rate_limiter.specs.declared.quota.Quota.{Quota}
use Rattle.rate_limiter.specs.declared.quota.Quota.TheVariants.{Numbers, Items}
use Rattle.rate_limiter.specs.Buckets.{bucket_at, bucket_of, or_opened, used, refilled, paid, counted, window_of}
use Rattle.rate_limiter.specs.Steps.{LimiterStep, refill, spend, ask, pays, may_spend, may_ask, buckets_after}
use Rattle.rate_limiter.specs.Steps.{octets_from, octets_to, enters, all_from, all_to, entries}
use Rattle.rate_limiter.proofs.KeyedLemmas.{same_address_is}
use Rattle.rate_limiter.proofs.AskLaws.{address_counted}
use Rattle.rate_limiter.proofs.Turns.{address_of, own_at, IsKept, others}

abbrev pub tokens_in : Option Bucket → ℕ
tokens_in None = 0
tokens_in (Some a) = a.tokens

abbrev pub entered : Option Bucket → Option Bucket → ℕ
entered old new = if is_some new && not (is_some old) then 1 else 0

-- a step that grants so many octets, where so many came
abbrev pub IsBounded : ℕ → ℕ → Option Bucket → Option Bucket → Type 0
IsBounded granted came old new = granted * 2 + tokens_in new * 2 ≤ came * 3 + entered old new * 512 + tokens_in old * 2

kept : (came : ℕ) (old new : Option Bucket) → IsKept old new → IsBounded 0 came old new
kept came old None k = omega arith
kept came None (Some a) k = cc
kept came (Some b) (Some a) k =
    let e : b ≡ a = cc in let same : b.tokens ≡ a.tokens = ap (λ (x : Bucket). x.tokens) e in omega (arith, same)

same : (came : ℕ) (old : Option Bucket) → IsBounded 0 came old old
same came None = omega arith
same came (Some a) = omega arith

refills : (address : Address) (octets : ℕ) (old : Option Bucket)
    → IsBounded 0 octets old (Some (refilled octets (or_opened address old)))
refills address octets None = omega arith
refills address octets (Some a) = omega arith

pays_for : (address : Address) (octets : ℕ) (old : Option Bucket) → pays octets old ≡ true
    → IsBounded octets 0 old (Some (paid octets (or_opened address old)))
pays_for address octets None h = cc
pays_for address octets (Some a) h = grind (arith, h)

tokens_counted : (k : Quota) (window granted : ℕ) (a : Bucket) → (counted window k granted a).tokens ≡ a.tokens
tokens_counted Numbers window granted a = refl
tokens_counted Items window granted a = refl

asks : (address : Address) (window : ℕ) (k : Quota) (granted : ℕ) (old : Option Bucket)
    → IsBounded 0 0 old (Some (counted window k granted (or_opened address old)))
asks address window k granted None = omega (arith, tokens_counted k window granted (or_opened address None))
asks address window k granted (Some a) = omega (arith, tokens_counted k window granted a)

step : (address : Address) (s : LimiterStep) (buckets : List Bucket)
    → IsBounded (octets_to address s buckets) (octets_from address s) (bucket_at address buckets)
    (bucket_at address (buckets_after s buckets))
step address (refill from octets) buckets =
    (elim (same_address from address) as (λ y.
    same_address from address ≡ y
    → IsBounded 0 (if y then octets else 0) (bucket_at address buckets)
    (bucket_at address (buckets_after (refill from octets) buckets))) [
      | true ↦ λ t.
          subst
          (λ (f : Address).
          IsBounded 0 octets (bucket_at address buckets) (bucket_at address (buckets_after (refill f octets) buckets)))
          (sym (same_address_is from address t))
          (subst (IsBounded 0 octets (bucket_at address buckets))
          (sym (own_at address (refilled octets (bucket_of address buckets)) buckets (address_of address buckets)))
          (refills address octets (bucket_at address buckets)))
      | false ↦ λ t.
          kept 0 (bucket_at address buckets) (bucket_at address (buckets_after (refill from octets) buckets))
          (others (refilled octets (bucket_of from buckets)) address buckets
          (ap (λ (a : Address). same_address a address) (address_of from buckets) ∙ t))
    ]) refl
step address (spend to octets) buckets =
    (elim (may_spend to octets buckets) as (λ z.
    may_spend to octets buckets ≡ z
    → IsBounded (if same_address to address && z then octets else 0) 0 (bucket_at address buckets)
    (bucket_at address (if z then used (paid octets (bucket_of to buckets)) buckets else buckets))) [
      | true ↦ λ m.
          (elim (same_address to address) as (λ y.
          same_address to address ≡ y
          → IsBounded (if y && true then octets else 0) 0 (bucket_at address buckets)
          (bucket_at address (used (paid octets (bucket_of to buckets)) buckets))) [
            | true ↦ λ t. let e = same_address_is to address t in
                subst
                (λ (f : Address).
                IsBounded octets 0 (bucket_at address buckets)
                (bucket_at address (used (paid octets (bucket_of f buckets)) buckets)))
                (sym e)
                (subst (IsBounded octets 0 (bucket_at address buckets))
                (sym (own_at address (paid octets (bucket_of address buckets)) buckets (address_of address buckets)))
                (pays_for address octets (bucket_at address buckets)
                (subst (λ (f : Address). may_spend f octets buckets ≡ true) e m)))
            | false ↦ λ t.
                kept 0 (bucket_at address buckets)
                (bucket_at address (used (paid octets (bucket_of to buckets)) buckets))
                (others (paid octets (bucket_of to buckets)) address buckets
                (ap (λ (a : Address). same_address a address) (address_of to buckets) ∙ t))
          ]) refl
      | false ↦ λ m.
          (elim (same_address to address)
          as (λ y.
          IsBounded (if y && false then octets else 0) 0 (bucket_at address buckets) (bucket_at address buckets)) [
            | true ↦ same 0 (bucket_at address buckets)
            | false ↦ same 0 (bucket_at address buckets)
          ])
    ]) refl
step address (ask from moment k count) buckets =
    let w = window_of moment in
    (elim (same_address from address) as (λ y.
    same_address from address ≡ y
    → IsBounded 0 0 (bucket_at address buckets) (bucket_at address (buckets_after (ask from moment k count) buckets))) [
      | true ↦ λ t.
          let g = may_ask address moment k count buckets in
          let x = counted w k g (bucket_of address buckets) in
          subst
          (λ (f : Address).
          IsBounded 0 0 (bucket_at address buckets) (bucket_at address (buckets_after (ask f moment k count) buckets)))
          (sym (same_address_is from address t))
          (subst (IsBounded 0 0 (bucket_at address buckets))
          (sym
          (own_at address x buckets (address_counted k w g (bucket_of address buckets) ∙ address_of address buckets)))
          (asks address w k g (bucket_at address buckets)))
      | false ↦ λ t.
          let g = may_ask from moment k count buckets in
          let x = counted w k g (bucket_of from buckets) in
          kept 0 (bucket_at address buckets) (bucket_at address (used x buckets))
          (others x address buckets (ap (λ (a : Address). same_address a address)
          (address_counted k w g (bucket_of from buckets) ∙ address_of from buckets)
          ∙ t))
    ]) refl

pub run : (address : Address) (ss : List LimiterStep) (buckets : List Bucket)
    → all_to address ss buckets * 2
    ≤ all_from address ss * 3 + entries address ss buckets * 256 * 2 + tokens_in (bucket_at address buckets) * 2
run address [] buckets = omega arith
run address (s ∷ ss) buckets =
    let one : octets_to address s buckets * 2 + tokens_in (bucket_at address (buckets_after s buckets)) * 2
    ≤ octets_from address s * 3 + enters address s buckets * 512 + tokens_in (bucket_at address buckets) * 2 =
    step address s buckets in
    let rest = run address ss (buckets_after s buckets) in
    omega (arith, one, rest)
