use Rattle.std.proofs.Common.{◌+◌, subst, refl, arith}
use Rattle.media_items.specs.Inputs.{Input}
use Rattle.media_front.specs.FedLanes.{IsFed}
use Rattle.media_front.specs.inner.TimerItems.{input_at}
use Rattle.media_front.proofs.PlaceLemmas.{length_up_to, up_to_more, up_to_all}
use Rattle.media_front.proofs.feed.LaneFeed.give_timer_item.Goals as goal

pub loop-lane-preserved : goal.loop-lane-preserved
loop-lane-preserved g c =
    let input = input_at c.args.timer_item in
    up_to_more (IsFed input) c.loop-lane.lane (c.loop-lane.lane + 1) c.args.self.now c.loop-lane.self
    c.give_one.new.self refl (omega (arith, c.loop-lane-test.true, c.count-count.ensures.count)) c.loop-lane.invariant
    (λ x at.
    let step = c.give_one.ensures x at in
    (step.0, subst (λ (i : Input). IsFed i x step.0) c.item.ensures step.1, step.2))

pub give_one-requires-clause-lane : goal.give_one-requires-clause-lane
give_one-requires-clause-lane g c =
    let input = input_at c.args.timer_item in
    omega (
      arith,
      c.loop-lane-test.true,
      c.count-count.ensures.count,
      length_up_to (IsFed input) c.loop-lane.lane c.args.self.now c.loop-lane.self c.loop-lane.invariant,
    )

pub returns : goal.returns
returns g c =
    up_to_all (IsFed (input_at c.args.timer_item)) c.loop-lane.lane c.args.self.now c.loop-lane.self
    (omega (arith, c.loop-lane-test.false, c.loop-lane.auto.lane-end, c.count-count.ensures.count))
    c.loop-lane.invariant
