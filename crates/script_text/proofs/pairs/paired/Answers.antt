use Rattle.std.proofs.Common.{arith, ◌≡◌, ◌∙◌, ap, ◌++◌, ◌∷◌, [], ◌*◌, ◌+◌, ◌<◌, ℕ, List, get_or, length}
use Rattle.script_text.specs.ItemLines.{pair_number}
use Rattle.script_text.proofs.PairLemmas.{paired_more}
use Rattle.script_text.proofs.pairs.paired.Goals as goal

pub loop-i-preserved : goal.loop-i-preserved
loop-i-preserved g c =
    let octets = c.args.octets.now in
    let i = c.loop-i.i in
    let a = get_or octets (2 * i) 0 in
    let b = get_or octets (2 * i + 1) 0 in
    let is : c.from.result * 256 + c.from-in-loop-i.result ≡ pair_number a b =
    omega (arith, c.from.ensures, c.from-in-loop-i.ensures) in
    let lt : 2 * i + 1 < length octets = omega (arith, c.loop-i-test.true, c.requires) in
    c.in_ok-push.ensures.items
    ∙ (ap (λ (x : ℕ). c.loop-i.numbers.items ++ x ∷ []) is
    ∙ (ap (λ (xs : List ℕ). xs ++ pair_number a b ∷ []) c.loop-i.invariant ∙ paired_more octets i lt))
