use Rattle.std.proofs.Common.{ap}
use Rattle.topology.specs.Receivers.{slots_to}
use Rattle.bridge_core.specs.inner.Control.{mix_report, slot_reports}
use Rattle.bridge_core.proofs.Told.{ok_joined}
use Rattle.bridge_core.proofs.reporting.Reporting.tell_member.Goals as goal

pub returns : goal.returns
returns g c = λ before left.
    let due = c.args.self.now in
    let slots = slot_reports due before c.args.to.now in
    ok_joined c.tell_slots.result _ _ _ (mix_report due before c.args.to.now) (slots c.slots_to-slots.result.now)
    (slots (slots_to due.visit.rows.now c.args.to.now.member)) (c.in_ok-tell_mix.ensures before left)
    (ap slots c.slots_to-slots.ensures) (c.tell_slots.ensures before left)
