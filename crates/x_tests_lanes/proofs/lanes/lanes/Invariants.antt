-- The lanes so far are new, and their readers are of the publisher.
use Rattle.std.proofs.Common.{◌≡◌, All, length}
use Rattle.published_desk.specs.Published.{new_reader}
use Rattle.media_workers.specs.LaneRuns.{LaneNow}
use Rattle.x_tests_lanes.proofs.Begun.{AreBegun}
use Rattle.x_tests_lanes.proofs.lanes.lanes.Given as goal

abbrev pub invariant-loop-lane : goal.invariant-loop-lane
invariant-loop-lane g l = record {
  readers : All (λ reader. reader ≡ new_reader g.H.DeskBrand.publisher g.H.DeskBrand.start) l.readers.items;
  begun : AreBegun l.many l.lanes.items;
  publisher : All (λ (lane : LaneNow). lane.reader.publisher ≡ g.H.DeskBrand.publisher) l.lanes.items;
  count : length l.lanes.items ≡ l.lane;
}
