use Rattle.std.proofs.Common.{◌≡◌, ◌≤◌, ℕ, All, length, vec_capacity, Some}
use Rattle.std.specs.Prelude.{slice_get}
use Rattle.published_desk.specs.Published.{ReaderOf}
use Rattle.media_workers.specs.LaneRuns.{LaneNow}
use Rattle.media_workers.specs.Bridges.{IsNew}
use Rattle.x_bench.proofs.lanes.all_lanes.Given as goal

abbrev pub invariant-loop-lane : goal.invariant-loop-lane
invariant-loop-lane g l = record {
  new : (place : ℕ) (one : LaneNow) → slice_get l.lanes.items place ≡ Some one →
      IsNew (record { ssrc = l.fn.settings.bridge_ssrc; cname = l.fn.settings.cname }) l.fn.count place one;
  publisher : All (λ (one : LaneNow). one.reader.publisher ≡ g.N.PublisherName.publisher) l.lanes.items;
  count : length l.lanes.items ≡ l.lane;
  capacity : l.fn.count ≤ vec_capacity l.lanes;
  readers : All (λ (r : ReaderOf). r.publisher ≡ g.N.PublisherName.publisher) l.readers.items;
}
