use Rattle.std.proofs.Common.{sym, ◌∙◌}
use Rattle.operator_desk.specs.inner.Tokens.{shown}
use Rattle.operator_desk.proofs.LogLemmas.{accepted-log}
use Rattle.operator_desk.proofs.desk_inner.DeskInner.rows.Goals as goal

pub returns-clause-copy : goal.returns-clause-copy
returns-clause-copy g c =
    let held = c.self.invariant.3 in
    let log = shown c.self.inside.entries.items in (
      log,
      held.legal,
      sym (c.version.ensures.version ∙ (held.called.version ∙ accepted-log g.H.DeskBrand.start log)),
      c.in_ok-rows.ensures ∙ (c.rows.ensures.rows ∙ held.called.desk),
    )
