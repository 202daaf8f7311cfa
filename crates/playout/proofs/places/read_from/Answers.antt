use Rattle.std.proofs.Common.{◌≡◌, ◌∙◌, ◌+◌, ◌-◌, ap, length, take, drop, map, count_by, is_some, arith}
use Rattle.playout.specs.inner.Cells.{cells_of, heard}
use Rattle.playout.proofs.Arrays.{cells-part}
use Rattle.playout.proofs.places.read_from.Goals as goal

pub returns-clause-samples : goal.returns-clause-samples
returns-clause-samples g c =
    let at = c.args.at in
    let n = length c.args.out.now in
    let same : at + n - at ≡ n = omega arith in
    let part =
    (λ i.
    cells_of (take (at + n - at) (drop at (c.deref.ensures.value i)))
    (take (at + n - at) (drop at (c.deref-2.ensures.value i))))
    ∙ cells-part at n (at + n - at) c.args.present.now.items c.args.samples.now.items c.requires.alike same in
    c.read.ensures.samples ∙ ap (map heard) part

pub returns-clause-count : goal.returns-clause-count
returns-clause-count g c =
    let at = c.args.at in
    let n = length c.args.out.now in
    let same : at + n - at ≡ n = omega arith in
    let part =
    (λ i.
    cells_of (take (at + n - at) (drop at (c.deref.ensures.value i)))
    (take (at + n - at) (drop at (c.deref-2.ensures.value i))))
    ∙ cells-part at n (at + n - at) c.args.present.now.items c.args.samples.now.items c.requires.alike same in
    c.read.ensures.count ∙ ap (count_by is_some) part
