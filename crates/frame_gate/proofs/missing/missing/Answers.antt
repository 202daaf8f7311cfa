use Rattle.std.proofs.Common.{◌≡◌, ℕ, ◌+◌, ◌-◌, max, List, map, sym, ap, ◌∙◌, arith}
use Rattle.std.specs.List.{range_with_len}
use Rattle.std.proofs.lemmas.Result.{IfOk-weaker}
use Rattle.frame_gate.specs.Packets.{ext_of}
use Rattle.frame_gate.specs.Epochs.{missing_above}
use Rattle.frame_gate.proofs.MissingNumbers.{missing-is}
use Rattle.frame_gate.proofs.missing.missing.Goals as goal

pub returns-in-Some : goal.returns-in-Some
returns-in-Some _ c =
    let g = c.in-Some.g in
    let next = c.args.next in
    let n = c.args.number in
    let m : c.max.result ≡ max (g + 1) next = omega (arith, c.max.ensures) in
    IfOk-weaker c.between.result _ _
    (λ out e. e
    ∙ ap (λ (ns : List ℕ). map ext_of ns) (ap (λ (k : ℕ). range_with_len k (n - k)) m
    ∙ missing-is g next n
    ∙ ap (λ o. missing_above o next n) (sym c.in-Some.is)))
    c.between.ensures
