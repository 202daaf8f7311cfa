use Rattle.std.proofs.Common.{◌≡◌, [], map, arith}
use Rattle.std.specs.Vec.Iter.{into_iter_items}
use Rattle.std.proofs.lemmas.List.{nil_from_length}
use Rattle.lane_wire.specs.Logs.{taken_list}
use Rattle.lane_wire.specs.Sinks.{AskedForAll}
use Rattle.lane_wire.proofs.EndedLemmas.{tells_more, tell_all, holds_of_more}
use Rattle.lane_wire.proofs.ended.sent_of.Goals as goal

pub loop-end-preserved : goal.loop-end-preserved
loop-end-preserved g c =
    let k = c.loop-end.invariant in
    let sent = c.into_sent-sent.result in
    record {
      taken =
          tells_more (λ lane. taken_list lane.taken) (λ end. end.sink.taken) c.loop-end.lanes.items _ sent
          (into_iter_items c.loop-end.end-iterator) (into_iter_items c.next.new.self) c.in-Some.end
          (map (λ end. end.sink.taken) c.args.ends.items) c.in_ok-push.ensures.items c.in-Some.ensures.steps.0
          c.into_sent-sent.ensures.taken k.taken;
      asked =
          holds_of_more AskedForAll c.loop-end.lanes.items _ sent c.in_ok-push.ensures.items k.asked
          c.into_sent-sent.ensures.asked;
    }

pub returns-clause-taken : goal.returns-clause-taken
returns-clause-taken g c =
    let left = into_iter_items c.loop-end.end-iterator in
    let none : left ≡ [] =
    nil_from_length left
    (let e = c.in-None.ensures.steps.0 in let ok = c.loop-end.end-iterator.rest.ok in omega arith) in
    tell_all (λ lane. taken_list lane.taken) (λ end. end.sink.taken) c.loop-end.lanes.items left
    (map (λ end. end.sink.taken) c.args.ends.items) none c.loop-end.invariant.taken
