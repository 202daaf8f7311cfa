-- The reports of the slots so far.
use Rattle.std.proofs.Common.{◌≡◌, ◌++◌, List, map, take}
use Rattle.bridge_core.specs.Sent.{sent_of}
use Rattle.bridge_core.specs.Lanes.{Visit}
use Rattle.bridge_core.specs.inner.Parts.{LeftBy}
use Rattle.bridge_core.specs.inner.Control.{slot_reports}
use Rattle.bridge_core.proofs.reporting.Reporting.tell_slots.Given as goal

abbrev pub invariant-loop-slot : goal.invariant-loop-slot
invariant-loop-slot g l =
    (before : List Visit) → LeftBy l.self.visit.place l.self.parts.now before
    → map sent_of l.out.items
    ≡ map sent_of l.fn.out.items ++ slot_reports l.self before l.to (take l.slot-index l.slots)
