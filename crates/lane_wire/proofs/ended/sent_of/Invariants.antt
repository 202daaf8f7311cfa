-- What the sinks took of the lanes that are done, and of those that are left, is what they all took.
use Rattle.std.proofs.Common.{◌≡◌, ◌++◌, map}
use Rattle.std.specs.List.{AllByRecursion}
use Rattle.std.specs.Vec.Iter.{into_iter_items}
use Rattle.lane_wire.specs.Logs.{taken_list}
use Rattle.lane_wire.specs.Sinks.{AskedForAll}
use Rattle.lane_wire.proofs.ended.sent_of.Given as goal

abbrev pub invariant-loop-end : goal.invariant-loop-end
invariant-loop-end g l = record {
  taken : map (λ lane. taken_list lane.taken) l.lanes.items
      ++ map (λ end. end.sink.taken) (into_iter_items l.end-iterator)
      ≡ map (λ end. end.sink.taken) l.fn.ends.items;
  asked : AllByRecursion AskedForAll l.lanes.items;
}
