use Rattle.std.proofs.Common.{◌≡◌, ◌∙◌, ◌+◌, ◌-◌, true, length, arith}
use Rattle.playout.specs.inner.Cells.{cells_of}
use Rattle.playout.proofs.Arrays.{whole, put_is, all_one}
use Rattle.playout.proofs.places.fill_whole.Goals as goal

pub returns-clause-cells : goal.returns-clause-cells
returns-clause-cells c =
    let at = c.args.at in
    let new = c.args.new.now in
    let same : at + length new - at ≡ length new = omega arith in
    let there =
    put_is at (length new) (at + length new - at) c.args.present.now c.fill.new.self _
    (all_one _ (length new) true c.fill.new.self (c.fill.ensures.after (λ y h. h)) (c.fill.ensures.len ∙ omega arith))
    same in
    let put =
    put_is at (length new) (at + length new - at) c.args.samples.now c.copy_from_slice.new.self new
    c.copy_from_slice.ensures.after same in
    (λ i. cells_of (there i) (put i))
    ∙ (whole at c.args.present.now c.args.samples.now new c.requires.alike c.requires.within c.requires.free).0

pub returns-clause-count : goal.returns-clause-count
returns-clause-count c =
    (whole c.args.at c.args.present.now c.args.samples.now c.args.new.now c.requires.alike c.requires.within
    c.requires.free).1
