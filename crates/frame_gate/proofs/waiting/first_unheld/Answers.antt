use Rattle.std.proofs.Common.{◌≡◌, ℕ, ◌+◌, ◌∷◌, Bool, false, cond, not, List, sym, ap, ◌∙◌}
use Rattle.std.specs.Prelude.{filter}
use Rattle.frame_gate.specs.Watched.{first_among}
use Rattle.frame_gate.proofs.MissingNumbers.{between, between-more}
use Rattle.frame_gate.proofs.Missed.{lacks}
use Rattle.frame_gate.proofs.waiting.first_unheld.Goals as goal

pub loop-number-preserved : goal.loop-number-preserved
loop-number-preserved g c =
    let n = c.loop-number.number in
    let cells = c.args.cells.now in
    let rest = filter (lacks cells) (between (n + 1) c.args.to) in
    let has : lacks cells n ≡ false = ap not (sym c.is_held.ensures ∙ c.if-not-is_held.false) in
    ap (λ (b : Bool). first_among (cond b (n ∷ rest) rest)) (sym has)
    ∙ ap (λ (xs : List ℕ). first_among (filter (lacks cells) xs))
    (sym (between-more n c.args.to c.loop-number-test.true))
    ∙ c.loop-number.invariant
