use Rattle.std.proofs.Common.{◌≡◌, ℕ, ℤ, ◌+◌, ◌++◌, [], ◌∷◌, List, map, sym, ap, ◌∙◌, append_assoc, append-nil}
use Rattle.frame_gate.specs.Packets.{ext_of}
use Rattle.frame_gate.proofs.MissingNumbers.{between, between-more, between-none}
use Rattle.frame_gate.proofs.missing.between.Goals as goal

pub loop-n-preserved : goal.loop-n-preserved
loop-n-preserved g c =
    let n = c.loop-n.n in
    let out = c.loop-n.out.items in
    let rest = map ext_of (between (n + 1) c.args.end) in
    let asked : c.ask.new.out.items ≡ out ++ ext_of n ∷ [] = c.in_ok-ask.ensures in
    ap (λ (xs : List ℤ). xs ++ rest) asked
    ∙ append_assoc out (ext_of n ∷ []) rest
    ∙ ap (λ (xs : List ℕ). out ++ map ext_of xs) (sym (between-more n c.args.end c.loop-n-test.true))
    ∙ c.loop-n.invariant

pub returns : goal.returns
returns g c =
    let out = c.loop-n.out.items in
    sym (append-nil out)
    ∙ ap (λ (xs : List ℕ). out ++ map ext_of xs) (sym (between-none c.loop-n.n c.args.end c.loop-n-test.false))
    ∙ c.loop-n.invariant
