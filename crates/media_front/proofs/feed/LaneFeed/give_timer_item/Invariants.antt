use Rattle.media_front.specs.FedLanes.{IsFed}
use Rattle.media_front.specs.inner.TimerItems.{input_at}
use Rattle.media_front.specs.inner.Places.{UpTo}
use Rattle.media_front.proofs.feed.LaneFeed.give_timer_item.Given as goal

abbrev pub invariant-loop-lane : goal.invariant-loop-lane
invariant-loop-lane g l = UpTo (IsFed (input_at l.fn.timer_item)) l.lane l.initial.self l.self
