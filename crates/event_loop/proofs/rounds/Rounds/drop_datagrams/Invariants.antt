use Rattle.std.proofs.Common.{◌≡◌, ◌≤◌, List, length}
use Rattle.std.specs.List.{AllByRecursion}
use Rattle.event_loop.specs.Turns.{Turn, HaveDone}
use Rattle.event_loop.specs.Shapes.{IsPassed}
use Rattle.event_loop.proofs.StepLemmas.{turns_of}
use Rattle.event_loop.proofs.rounds.Rounds.drop_datagrams.Given as goal

-- what was read so far was dropped
abbrev pub invariant-loop : goal.invariant-loop
invariant-loop g l = record {
  done : (reads : List (List Turn))
      × HaveDone (turns_of reads) l.fn.self.state l.self.state
      × AllByRecursion IsPassed reads × (length reads ≡ l.counter);
  few : l.counter ≤ 64;
}
