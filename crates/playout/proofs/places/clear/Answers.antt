use Rattle.std.proofs.Common.{◌≡◌, ◌∙◌, ◌+◌, ◌-◌, ap, List, Bool, false, arith}
use Rattle.playout.specs.inner.Cells.{cells_of}
use Rattle.playout.proofs.Arrays.{cells-emptied, put_is, all_one}
use Rattle.playout.proofs.places.clear.Goals as goal

pub returns-clause-cells : goal.returns-clause-cells
returns-clause-cells c =
    let at = c.args.at in
    let n = c.args.count in
    let same : at + n - at ≡ n = omega arith in
    let there =
    put_is at n (at + n - at) c.args.present.now c.fill.new.self _
    (all_one _ n false c.fill.new.self (c.fill.ensures.after (λ y h. h)) (c.fill.ensures.len ∙ omega arith)) same in
    ap (λ (ps : List Bool). cells_of ps c.args.samples.now) there
    ∙ cells-emptied at n c.args.present.now c.args.samples.now c.requires.alike c.requires.within
