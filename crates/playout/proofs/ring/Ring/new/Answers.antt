use Rattle.std.proofs.Common.{◌≡◌, ◌∙◌, ◌++◌, [], ap, List, Bool, Option, ℤ, length, append-nil, arith}
use Rattle.playout.specs.inner.Cells.{cells_of}
use Rattle.playout.proofs.Arrays.{cells-blank, length-cells}
use Rattle.playout.proofs.Turned.{blank}
use Rattle.playout.proofs.ring.Ring.new.Goals as goal

pub returns-clause-blank : goal.returns-clause-blank
returns-clause-blank g c =
    let ps = c.in_ok-present.present.items in
    let ss = c.in_ok-samples.samples.items in
    let n = c.args.places in
    let all = cells-blank n ss (omega (arith, c.in_ok-samples.ensures.len, c.in_ok-samples.samples.ok.0)) in
    blank n 0 (omega arith) (cells_of ps ss ++ []) (ap (λ (bs : List Bool). cells_of bs ss ++ [])
    (c.in_ok-present.ensures.items_if_clones_equal (λ y h. h))
    ∙ ap (λ (xs : List (Option ℤ)). xs ++ []) all)

pub returns-clause-long : goal.returns-clause-long
returns-clause-long g c =
    let ps = c.in_ok-present.present.items in
    let ss = c.in_ok-samples.samples.items in
    let alike : length ss ≡ length ps =
    omega (
      arith,
      c.in_ok-samples.ensures.len,
      c.in_ok-samples.samples.ok.0,
      c.in_ok-present.ensures.len,
      c.in_ok-present.present.ok.0,
    ) in
    omega (
      arith,
      ap (λ (xs : List (Option ℤ)). length xs) (append-nil (cells_of ps ss)),
      length-cells ps ss alike,
      c.in_ok-present.ensures.len,
      c.in_ok-present.present.ok.0,
    )
