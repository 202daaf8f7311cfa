use Rattle.std.proofs.Common.{◌≡◌, ◌∙◌, pos, length, map, sym, arith}
use Rattle.std.proofs.lemmas.List.{ext_get_or, length-map}
use Rattle.playout.specs.inner.Cells.{cells_of, heard}
use Rattle.playout.proofs.Arrays.{length-cells, heard_at}
use Rattle.playout.proofs.places.read_each.Goals as goal

pub returns : goal.returns
returns c =
    let cells = cells_of c.args.present.now c.args.samples.now in
    let many = length-cells c.args.present.now c.args.samples.now c.requires.alike in
    let long : length c.loop-i.out ≡ length cells = c.loop-i.invariant.long ∙ c.requires.all ∙ sym many in
    ext_get_or (pos 0) c.loop-i.out (map heard cells) (long ∙ sym (length-map cells heard))
    (λ j lt.
    c.loop-i.invariant.samples j
    (omega (arith, lt, c.loop-i-test.false, c.loop-i.auto.i-end, c.loop-i.auto.out, c.loop-i.invariant.long))
    ∙ sym (heard_at c.args.present.now c.args.samples.now j c.requires.alike))
