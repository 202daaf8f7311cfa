use Rattle.std.proofs.Common.{◌∙◌, ap, ℤ, true, set, rules}
use mir.Val.{SFits}
use mir.Syntax.{w16}
use Rattle.std.proofs.lemmas.Int.{to_z-of_z}
use Rattle.playout.specs.inner.Cells.{cells_of}
use Rattle.playout.proofs.Arrays.{kept_there, put_there}
use Rattle.playout.proofs.places.fill.Goals as goal

pub returns-then-present-at-clause-cells : goal.returns-then-present-at-clause-cells
returns-then-present-at-clause-cells c =
    (kept_there c.args.present.now c.args.samples.now c.args.at c.args.sample c.requires.alike c.if-present-at.true).0

pub returns-then-present-at-clause-new : goal.returns-then-present-at-clause-new
returns-then-present-at-clause-new c =
    (kept_there c.args.present.now c.args.samples.now c.args.at c.args.sample c.requires.alike c.if-present-at.true).1

pub returns-clause-cells : goal.returns-clause-cells
returns-clause-cells c =
    let fits : SFits w16 c.args.sample = search rules in
    ap (λ (s : ℤ). cells_of (set c.args.present.now c.args.at true) (set c.args.samples.now c.args.at s))
    (to_z-of_z w16 c.args.sample fits)
    ∙ (put_there c.args.present.now c.args.samples.now c.args.at c.args.sample c.requires.alike c.if-present-at.false).0

pub returns-clause-new : goal.returns-clause-new
returns-clause-new c =
    (put_there c.args.present.now c.args.samples.now c.args.at c.args.sample c.requires.alike c.if-present-at.false).1
