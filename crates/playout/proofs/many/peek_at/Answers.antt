use Rattle.std.proofs.Common.{◌∙◌, ap, sym, length, List, ℤ, pos, get_or, arith}
use Rattle.std.proofs.lemmas.List.{get_or-replicate}
use Rattle.playout.proofs.EachSource.{shown_own, shown_other}
use Rattle.playout.proofs.many.peek_at.Goals as goal

pub returns-then-rate : goal.returns-then-rate
returns-then-rate g c =
    shown_own c.args.playout.now c.args.rate c.peek.new.out c.peek.result (sym c.rate.ensures ∙ c.if-rate.true)
    c.peek.ensures

pub returns-else-rate : goal.returns-else-rate
returns-else-rate g c =
    shown_other c.args.playout.now c.args.rate c.fill.new.self (λ same. c.if-rate.false (c.rate.ensures ∙ same))
    (λ i lt.
    ap (λ (xs : List ℤ). get_or xs i (pos 0)) (c.fill.ensures.after (λ y h. h))
    ∙ get_or-replicate (length c.args.out.now) i (pos 0) (pos 0) (omega (arith, lt, c.fill.ensures.len)))
