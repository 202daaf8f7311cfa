use Rattle.std.proofs.Common.{◌≡◌, ℕ, ◌+◌, ◌-◌, ◌<◌, ◌≤◌, length, List, None, true}
use Rattle.frame_gate.specs.Frame.{WholeFrame}
use Rattle.frame_gate.specs.Runs.{Divided, row, divide_on}
use Rattle.std.specs.Option.{option_copied}
use Rattle.frame_gate.specs.inner.Cells.{held}
use Rattle.frame_gate.specs.inner.Walks.{Stands, GoesOn}
use Rattle.frame_gate.proofs.walk.drain.Given as goal

abbrev pub invariant-loop-number : goal.invariant-loop-number
invariant-loop-number g l =
    let at = held l.cells (option_copied l.newcomer) in
    let start = l.fn.from.after in
    record {
      after : l.walk.after ≡ l.number;
      long : length (row at start (l.number - start)) ≡ l.number - start;
      stands : (cut : ℕ) (given earlier : List WholeFrame) (d : Divided)
          → Stands at cut given earlier d l.fn.from l.fn.frames.items → GoesOn d.unclosed
          → Stands at cut given earlier (divide_on d (row at start (l.number - start))) l.walk l.frames.items;
      still : l.to < start → l.number ≡ start;
      next : (l.fn.from.next ≤ l.walk.next) × (l.walk.next ≤ l.walk.after);
      begun : l.number ≡ start → l.walk ≡ l.fn.from;
      fresh : l.fn.from.first ≡ true → l.fn.from.stamp ≡ None → start < l.number → start + 1 ≤ l.walk.next;
    }
