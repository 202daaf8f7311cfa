use Rattle.std.proofs.Common.{◌++◌, map, ap, ◌∙◌}
use Rattle.std.proofs.lemmas.List.{take_all}
use Rattle.bridge_core.specs.Sent.{sent_of}
use Rattle.bridge_core.specs.inner.Control.{slot_report, slot_reports}
use Rattle.bridge_core.proofs.Told.{one_more}
use Rattle.bridge_core.proofs.reporting.Reporting.tell_slots.Goals as goal

pub loop-slot-preserved : goal.loop-slot-preserved
loop-slot-preserved g c = λ before left.
    one_more (slot_report c.args.self.now before c.args.to.now) (map sent_of c.args.out.now.items) c.args.slots.now
    c.loop-slot.slot-index _ _ _ c.loop-slot-test.true (c.loop-slot.invariant before left)
    (c.in_ok-tell_slot.ensures before left)

pub returns : goal.returns
returns g c = λ before left.
    c.loop-slot.invariant before left
    ∙ ap (λ slots. map sent_of c.args.out.now.items ++ slot_reports c.args.self.now before c.args.to.now slots)
    (take_all c.loop-slot.slot-index c.args.slots.now c.loop-slot-test.false)
