-- The reports to the members so far.
use Rattle.std.proofs.Common.{◌≡◌, List, map, take}
use Rattle.std.specs.List.{flat_map}
use Rattle.bridge_core.specs.Sent.{sent_of}
use Rattle.bridge_core.specs.Lanes.{Visit}
use Rattle.bridge_core.specs.inner.Parts.{LeftBy}
use Rattle.bridge_core.specs.inner.Control.{member_reports}
use Rattle.bridge_core.proofs.reporting.Reporting.all.Given as goal

abbrev pub invariant-loop-member : goal.invariant-loop-member
invariant-loop-member g l =
    (before : List Visit) → LeftBy l.self.visit.place l.self.parts.now before
    → map sent_of l.out.items ≡ flat_map (member_reports l.self before) (take l.member-index l.member-items)
