use Rattle.std.proofs.Common.{◌≡◌, ◌∙◌, ap, sym, subst, IfSome}
use Rattle.std.specs.Map.{lookup}
use Rattle.rate_limiter.specs.declared.bucket.Bucket.{Bucket}
use Rattle.rate_limiter.specs.declared.key.AddressKey.{AddressKey}
use Rattle.rate_limiter.specs.Buckets.{bucket_at}
use Rattle.rate_limiter.specs.inner.Keyed.{same_key}
use Rattle.rate_limiter.proofs.KeyedLemmas.{found_at}
use Rattle.rate_limiter.proofs.Turns.{address_found}
use Rattle.rate_limiter.proofs.limiter.RateLimiter.bucket_at.Goals as goal

pub returns-clause-bucket : goal.returns-clause-bucket
returns-clause-bucket g c =
    c.copied.ensures ∙ c.peek.ensures
    ∙ ap (λ (k : AddressKey). lookup (same_key k) c.self.inside.cache.entries) c.key_of.ensures
    ∙ found_at c.args.address.now c.self.inside.cache.entries c.self.invariant.2
    ∙ ap (bucket_at c.args.address.now) c.self.view_is

pub returns-clause-address : goal.returns-clause-address
returns-clause-address g c =
    subst (λ o. IfSome o (λ (a : Bucket). a.address ≡ c.args.address.now)) (sym (returns-clause-bucket g c))
    (address_found c.args.address.now c.args.self.now)
