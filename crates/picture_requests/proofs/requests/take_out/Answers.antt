use Rattle.std.proofs.Common.{◌≡◌, length, ap, rules, arith}
use Rattle.std.proofs.lemmas.Fn.{filter_same}
use Rattle.picture_requests.specs.Sources.{without_source}
use Rattle.picture_requests.proofs.Once.{fewer}
use Rattle.picture_requests.proofs.requests.take_out.Goals as goal

pub returns-clause-items : goal.returns-clause-items
returns-clause-items g c = filter_same _ _ _ (λ x b f k. search rules) _ _ c.retain.ensures.filtered

pub returns-clause-len : goal.returns-clause-len
returns-clause-len g c =
    let s = c.args.source.now in
    let xs = c.args.sources.now.items in
    let out : c.retain.new.self.items ≡ without_source s xs =
    filter_same _ _ _ (λ x b f k. search rules) _ _ c.retain.ensures.filtered in
    let old = c.args.sources.now.ok in
    let new = c.retain.new.self.ok in
    omega (arith, old, new, ap length out, fewer s xs c.requires)
