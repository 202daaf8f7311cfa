use Rattle.std.proofs.Common.{List, ℕ, [], take}
use Rattle.std.specs.Prelude.{fold}
use Rattle.operator_lines.specs.Cut.{Cut, with_octet}
use Rattle.operator_lines.specs.Fed.{texts}
use Rattle.operator_lines.specs.inner.Holds.{Holds, in_place, unless}
use Rattle.operator_lines.proofs.feeding.Lines.feed.Given as goal

-- what is kept is that of the stream up to here, and its new lines are collected
abbrev pub invariant-loop-octet : goal.invariant-loop-octet
invariant-loop-octet g l =
    (before : List (List ℕ)) (c : Cut) → Holds before c l.fn.self []
    → Holds before (fold with_octet c (take l.octet-index l.octets))
    (in_place (unless l.ended l.fn.self.pending) l.next) (texts l.lines.items)
