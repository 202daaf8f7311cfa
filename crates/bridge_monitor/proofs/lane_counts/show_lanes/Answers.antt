use Rattle.std.proofs.Common.{◌≡◌, ◌∙◌, refl, length, arith}
use Rattle.bridge_monitor.proofs.lane_counts.show_lanes.Goals.{in-Some, in_default}
use Rattle.bridge_monitor.proofs.lane_counts.show_lanes.Goals as goal

pub loop-lane-init : goal.loop-lane-init
loop-lane-init g c = refl

pub given-items-requires : goal.given-items-requires
given-items-requires g c =
    let as_many : length c.loop-lane.media.feed ≡ length c.args.media.now.feed =
    (λ i. length (c.loop-lane.invariant i).feed) in
    record { lane = omega (arith, c.loop-lane-test.true, c.lanes-lane-end.ensures.count, as_many) }

pub waiting-waiting-requires : goal.waiting-waiting-requires
waiting-waiting-requires g c =
    let as_many : length c.loop-lane.media.feed ≡ length c.args.media.now.feed =
    (λ i. length (c.loop-lane.invariant i).feed) in
    record { lane = omega (arith, c.loop-lane-test.true, c.lanes-lane-end.ensures.count, as_many) }

pub dropped-requires : goal.dropped-requires
dropped-requires g c =
    let same = c.waiting-waiting.ensures.same ∙ c.loop-lane.invariant in
    let as_many : length c.waiting-waiting.new.self.feed ≡ length c.args.media.now.feed =
    (λ i. length (same i).feed) in
    record { lane = omega (arith, c.loop-lane-test.true, c.lanes-lane-end.ensures.count, as_many) }

pub loop-lane-preserved : goal.loop-lane-preserved
loop-lane-preserved g c =
    elim c.match-get.branch [
      | in-Some w ↦ w.media-is ∙ w.waiting-waiting.ensures.same ∙ c.loop-lane.invariant
      | in_default w ↦ w.media-is ∙ c.loop-lane.invariant
    ]

pub returns : goal.returns
returns g c = record { media = c.loop-lane.invariant }
