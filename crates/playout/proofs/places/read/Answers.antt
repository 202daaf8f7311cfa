use Rattle.std.proofs.Common.{◌∙◌, ap, ℕ, pos, replicate, sym}
use Rattle.playout.proofs.Arrays.{count-cells, all_heard, none_heard}
use Rattle.playout.proofs.places.read.Goals as goal

pub returns-then-there-present-clause-samples : goal.returns-then-there-present-clause-samples
returns-then-there-present-clause-samples c =
    c.copy_from_slice.ensures.after
    ∙ all_heard c.args.present.now c.args.samples.now c.requires.alike
    (sym c.count-there.ensures ∙ c.if-there-present.true)

pub returns-then-there-present-clause-count : goal.returns-then-there-present-clause-count
returns-then-there-present-clause-count c =
    c.count-there.ensures ∙ sym (count-cells c.args.present.now c.args.samples.now c.requires.alike)

pub returns-then-there-eq0-clause-samples : goal.returns-then-there-eq0-clause-samples
returns-then-there-eq0-clause-samples c =
    c.fill.ensures.after (λ y h. h) ∙ ap (λ (n : ℕ). replicate n (pos 0)) c.requires.all
    ∙ none_heard c.args.present.now c.args.samples.now c.requires.alike
    (sym c.count-there.ensures ∙ c.if-there-eq0.true)

pub returns-then-there-eq0-clause-count : goal.returns-then-there-eq0-clause-count
returns-then-there-eq0-clause-count c =
    c.count-there.ensures ∙ sym (count-cells c.args.present.now c.args.samples.now c.requires.alike)

pub returns-else-there-eq0-clause-count : goal.returns-else-there-eq0-clause-count
returns-else-there-eq0-clause-count c =
    c.count-there.ensures ∙ sym (count-cells c.args.present.now c.args.samples.now c.requires.alike)
