use Rattle.std.proofs.Common.{◌≡◌, ◌-◌, ◌++◌, false}
use Rattle.std.specs.Option.{option_copied}
use Rattle.frame_gate.specs.Frame.{has_bad_kind}
use Rattle.frame_gate.specs.inner.Cells.{held}
use Rattle.frame_gate.proofs.Pieces.{collected}
use Rattle.frame_gate.proofs.cells.piece.Given as goal

abbrev pub invariant-loop-number : goal.invariant-loop-number
invariant-loop-number g l = record {
  kinds : has_bad_kind l.out.items ≡ false;
  items : l.out.items ++ collected (held l.cells (option_copied l.newcomer)) l.number (l.to - l.number)
      ≡ collected (held l.cells (option_copied l.newcomer)) l.fn.from (l.fn.to - l.fn.from);
}
