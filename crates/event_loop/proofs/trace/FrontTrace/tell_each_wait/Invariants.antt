use Rattle.std.proofs.Common.{take}
use Rattle.std.specs.Prelude.{filter_map}
use Rattle.media_front.specs.inner.Origins.{origin_in}
use Rattle.event_loop.specs.Traced.{AreWaits}
use Rattle.event_loop.proofs.trace.FrontTrace.tell_each_wait.Given as goal

-- it was told of the sources in the rows so far
abbrev pub invariant-loop-row : goal.invariant-loop-row
invariant-loop-row l =
    AreWaits l.moment (filter_map (origin_in l.rows) (take l.row-index l.row-items)) l.initial.self l.self
