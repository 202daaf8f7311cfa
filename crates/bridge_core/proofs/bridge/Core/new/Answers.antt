use Rattle.std.proofs.Common.{◌≡◌, true, sym, subst, ◌∙◌}
use Rattle.ingress.specs.Names.{is_name}
use Rattle.bridge_core.specs.Sound.{HavePlaces}
use Rattle.bridge_core.proofs.StepLaws.{placed_at_first, no_fault}
use Rattle.bridge_core.proofs.bridge.Core.new.Goals as goal

pub invariant_of-result : goal.invariant_of-result
invariant_of-result g c =
    subst (HavePlaces c.in-Ok-lane_states.states.items) (sym c.in-Ok-new.ensures.asker)
    (placed_at_first c.args.lanes _ c.in-Ok-lane_states.states.items c.in-Ok-lane_states.ensures.fresh
    c.in-Ok-lane_states.ensures.count)

pub returns-clause-good : goal.returns-clause-good
returns-clause-good g c =
    let named : is_name c.args.settings.cname ≡ true = sym c.is_good.ensures ∙ c.if-not-is_good.false in
    no_fault c.args.lanes c.args.settings.cname c.if-lanes-eq0.false c.if-lanes-gt-LANES.false named

pub returns-in_default-new-clause-memory : goal.returns-in_default-new-clause-memory
returns-in_default-new-clause-memory g c = λ e.
    let named : is_name c.args.settings.cname ≡ true = sym c.is_good.ensures ∙ c.if-not-is_good.false in
    no_fault c.args.lanes c.args.settings.cname c.if-lanes-eq0.false c.if-lanes-gt-LANES.false named

pub returns-clause-fresh : goal.returns-clause-fresh
returns-clause-fresh g c = record {
  version = c.new-3.ensures.begins.version;
  desk = c.new-3.ensures.begins.desk ∙ c.in-Ok.ensures.desk;
  lanes = λ lane state at. (c.in-Ok-lane_states.ensures.fresh lane state at).3;
}
