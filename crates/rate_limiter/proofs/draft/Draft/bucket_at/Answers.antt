use Rattle.std.proofs.Common.{◌≡◌, ◌∙◌, ap, sym, subst, IfSome, Some}
use Rattle.rate_limiter.specs.declared.bucket.Bucket.{Bucket}
use Rattle.rate_limiter.specs.Buckets.{bucket_at}
use Rattle.rate_limiter.specs.Drafts.{DraftOf}
use Rattle.rate_limiter.specs.inner.Keyed.{drafted}
use Rattle.rate_limiter.proofs.Turns.{own_at, address_found}
use Rattle.rate_limiter.proofs.draft.Draft.bucket_at.Goals as goal

pub returns-in-Some-clause-bucket : goal.returns-in-Some-clause-bucket
returns-in-Some-clause-bucket g c =
    let d = c.self.inside in
    let is : c.self.inside.used ≡ Some c.in-Some.bucket = c.in-Some.is in
    let address : c.in-Some.bucket.address ≡ d.address =
    subst (λ o. IfSome o (λ (a : Bucket). a.address ≡ d.address)) is c.self.invariant.1 in
    sym (own_at d.address c.in-Some.bucket d.before.value address)
    ∙ ap (λ o. bucket_at d.address (drafted o d.before.value)) (sym is)
    ∙ ap (λ (x : DraftOf). bucket_at x.address x.after) c.self.view_is

pub returns-in-None-clause-address : goal.returns-in-None-clause-address
returns-in-None-clause-address g c =
    let d = c.self.inside in
    let at = c.self.invariant.0 ∙ ap (λ (x : DraftOf). bucket_at x.address x.before) c.self.view_is in
    subst (λ o. IfSome o (λ (a : Bucket). a.address ≡ c.args.self.now.address)) (sym at)
    (address_found c.args.self.now.address c.args.self.now.before)
