use Rattle.std.proofs.Common.{List, ℕ, take, sym, ap, ◌∙◌, arith}
use Rattle.std.proofs.lemmas.List.{take_all, length-take-le}
use Rattle.operator_lines.specs.Outbound.{piece}
use Rattle.operator_lines.proofs.outgoing.Outgoing.next.Goals as goal

pub slice_bounds-result-end : goal.slice_bounds-result-end
slice_bounds-result-end g c =
    sym (length-take-le piece c.waiting-waiting.result.now (let e = c.if-waiting-gt-PIECE.true in omega arith))

pub returns-else-waiting-gt-PIECE : goal.returns-else-waiting-gt-PIECE
returns-else-waiting-gt-PIECE g c =
    sym (take_all piece c.waiting-waiting.result.now (let e = c.if-waiting-gt-PIECE.false in omega arith))
    ∙ ap (λ (l : List ℕ). take piece l) c.waiting-waiting.ensures
