use Rattle.std.proofs.Common.{ℕ, ◌+◌, ◌-◌, ◌<◌, ◌≤◌, List, None}
use Rattle.frame_gate.specs.Frame.{WholeFrame}
use Rattle.frame_gate.specs.inner.Cells.{held}
use Rattle.frame_gate.specs.Epochs.{Epoch, resynced}
use Rattle.frame_gate.specs.inner.Ties.{Tied}
use Rattle.frame_gate.proofs.Cuts.{Underway}
use Rattle.frame_gate.proofs.resync.resync.Given as goal

abbrev pub invariant-loop-walk : goal.invariant-loop-walk
invariant-loop-walk g l =
    let at = held l.cells None in
    record {
      next : (l.fn.from.next ≤ l.walk.next) × (l.walk.next ≤ l.walk.after) × (l.walk.next ≤ l.number);
      underway : (given : List WholeFrame) (e : Epoch) (most : ℕ) → Tied at given e l.fn.from l.fn.frames.items
          → l.number < l.fn.from.next + 256 + most
          → Underway at given (resynced most e l.number) l.number l.walk l.frames.items;
    }

abbrev pub decreases-loop-walk : goal.decreases-loop-walk
decreases-loop-walk g l = l.number - l.walk.next
