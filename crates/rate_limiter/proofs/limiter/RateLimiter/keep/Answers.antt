use Rattle.std.proofs.Common.{◌≡◌, ◌∙◌, ap, sym, subst, IsSome, IsOk}
use Rattle.std.specs.Map.{lookup}
use Rattle.rate_limiter.specs.declared.key.AddressKey.{AddressKey}
use Rattle.rate_limiter.specs.Buckets.{bucket_at, used, most_addresses}
use Rattle.rate_limiter.specs.inner.Keyed.{same_key, put_within}
use Rattle.rate_limiter.proofs.KeyedLemmas.{IsPut, is_put, found_at}
use Rattle.rate_limiter.proofs.limiter.RateLimiter.keep.Goals as goal

pub returns-in_err-put-clause-known : goal.returns-in_err-put-clause-known
returns-in_err-put-clause-known g c = λ known.
    let a = c.args.bucket in
    let es = c.self.inside.cache.entries in
    let at : bucket_at a.address c.args.self.now ≡ lookup (same_key c.key_of.result) es =
    ap (bucket_at a.address) (sym c.self.view_is)
    ∙ sym (found_at a.address es c.self.invariant.2)
    ∙ ap (λ (k : AddressKey). lookup (same_key k) es) (sym c.key_of.ensures) in
    let fine = subst IsOk c.in_err-put.was (c.put.ensures.succeeds (subst IsSome at known)) in cc

-- what the cache has afterwards
abbrev put : (g : _) (c : goal.In_ok-put g) → IsPut c.args.bucket c.self.inside.cache.entries c.put.new.self.entries
put g c =
    let a = c.args.bucket in
    let es = c.self.inside.cache.entries in
    subst (IsPut a es)
    (sym (ap (λ x. x.entries) c.in_ok-put.ensures.entries
    ∙ ap (λ n. put_within n c.key_of.result a es) c.self.invariant.0
    ∙ ap (λ (k : AddressKey). put_within most_addresses k a es) c.key_of.ensures))
    (is_put a es c.self.invariant.1 c.self.invariant.2)

pub invariant_of-self-2 : goal.invariant_of-self-2
invariant_of-self-2 g c =
    let p = put g c in
    (ap (λ x. x.cap) c.in_ok-put.ensures.entries ∙ c.self.invariant.0, p.few, p.keyed)

pub returns-clause-kept : goal.returns-clause-kept
returns-clause-kept g c = (put g c).used ∙ ap (used c.args.bucket) c.self.view_is
