use Rattle.std.proofs.Common.{◌≡◌, ◌∙◌, ◌+◌, ◌-◌, ◌≤◌, ℤ, ap, List, Option, length, take, drop, ◌++◌, take-append-drop}
use Rattle.std.proofs.Common.{length-drop, length-take, arith}
use Rattle.std.proofs.lemmas.List.{take_rest}
use Rattle.playout.specs.inner.Cells.{cells_of, turned, fills, news}
use Rattle.playout.proofs.Arrays.{length-cells}
use Rattle.playout.proofs.Turned.{ring_long, near, far, over}
use Rattle.playout.proofs.ring.Ring.write.Goals as goal

pub overflow_add-offset : goal.overflow_add-offset
overflow_add-offset g c =
    let inside = c.self.inside in
    omega (
      arith,
      c.requires.within,
      c.self.invariant.most,
      ring_long inside.start inside.present.items inside.samples.items c.args.self.now c.self.invariant c.self.view_is,
    )

pub returns-then-offset-samples-clause-cells : goal.returns-then-offset-samples-clause-cells
returns-then-offset-samples-clause-cells g c =
    let inside = c.self.inside in
    let cells = cells_of inside.present.items inside.samples.items in
    let many = length-cells inside.present.items inside.samples.items c.self.invariant.alike in
    let le : inside.start + c.args.offset + length c.args.samples.now ≤ length cells =
    omega (arith, c.if-offset-samples.true, c.len.ensures, inside.present.ok.0, many, c.self.invariant.within) in
    ap (turned inside.start) c.fill_from.ensures.cells ∙ (near inside.start c.args.offset cells c.args.samples.now le).0
    ∙ ap (λ (xs : List (Option ℤ)). fills xs c.args.offset c.args.samples.now) c.self.view_is

pub returns-then-offset-samples-clause-count : goal.returns-then-offset-samples-clause-count
returns-then-offset-samples-clause-count g c =
    let inside = c.self.inside in
    let cells = cells_of inside.present.items inside.samples.items in
    let many = length-cells inside.present.items inside.samples.items c.self.invariant.alike in
    let le : inside.start + c.args.offset + length c.args.samples.now ≤ length cells =
    omega (arith, c.if-offset-samples.true, c.len.ensures, inside.present.ok.0, many, c.self.invariant.within) in
    c.fill_from.ensures.count ∙ (near inside.start c.args.offset cells c.args.samples.now le).1
    ∙ ap (λ (xs : List (Option ℤ)). news xs c.args.offset c.args.samples.now) c.self.view_is

pub fill_from-requires-then-offset-ahead-clause-within : goal.fill_from-requires-then-offset-ahead-clause-within
fill_from-requires-then-offset-ahead-clause-within g c =
    let inside = c.self.inside in
    let whole =
    ring_long inside.start inside.present.items inside.samples.items c.args.self.now c.self.invariant c.self.view_is in
    omega (
      arith,
      c.requires.within,
      whole,
      c.if-offset-ahead.true,
      c.len.ensures,
      inside.present.ok.0,
      c.self.invariant.within,
    )

pub returns-then-offset-ahead-clause-cells : goal.returns-then-offset-ahead-clause-cells
returns-then-offset-ahead-clause-cells g c =
    let inside = c.self.inside in
    let cells = cells_of inside.present.items inside.samples.items in
    let new = c.args.samples.now in
    let ahead = c.len.result - inside.start in
    let many = length-cells inside.present.items inside.samples.items c.self.invariant.alike in
    let whole =
    ring_long inside.start inside.present.items inside.samples.items c.args.self.now c.self.invariant c.self.view_is in
    let le : c.args.offset - ahead + length new ≤ inside.start =
    omega (
      arith,
      c.requires.within,
      whole,
      c.if-offset-ahead.true,
      c.len.ensures,
      inside.present.ok.0,
      c.self.invariant.within,
    ) in
    let e : ahead + inside.start ≡ length cells =
    omega (arith, many, c.len.ensures, inside.present.ok.0, c.self.invariant.within) in
    let at : ahead + (c.args.offset - ahead) ≡ c.args.offset = omega (arith, c.if-offset-ahead.true) in
    ap (turned inside.start) c.fill_from-then-offset-ahead.ensures.cells
    ∙ (far inside.start ahead (c.args.offset - ahead) cells new le e).0
    ∙ (λ i. fills (c.self.view_is i) (at i) new)

pub returns-then-offset-ahead-clause-count : goal.returns-then-offset-ahead-clause-count
returns-then-offset-ahead-clause-count g c =
    let inside = c.self.inside in
    let cells = cells_of inside.present.items inside.samples.items in
    let new = c.args.samples.now in
    let ahead = c.len.result - inside.start in
    let many = length-cells inside.present.items inside.samples.items c.self.invariant.alike in
    let whole =
    ring_long inside.start inside.present.items inside.samples.items c.args.self.now c.self.invariant c.self.view_is in
    let le : c.args.offset - ahead + length new ≤ inside.start =
    omega (
      arith,
      c.requires.within,
      whole,
      c.if-offset-ahead.true,
      c.len.ensures,
      inside.present.ok.0,
      c.self.invariant.within,
    ) in
    let e : ahead + inside.start ≡ length cells =
    omega (arith, many, c.len.ensures, inside.present.ok.0, c.self.invariant.within) in
    let at : ahead + (c.args.offset - ahead) ≡ c.args.offset = omega (arith, c.if-offset-ahead.true) in
    c.fill_from-then-offset-ahead.ensures.count ∙ (far inside.start ahead (c.args.offset - ahead) cells new le e).1
    ∙ (λ i. news (c.self.view_is i) (at i) new)

pub fill_from-requires-2-clause-within : goal.fill_from-requires-2-clause-within
fill_from-requires-2-clause-within g c =
    let inside = c.self.inside in
    let new = c.args.samples.now in
    let split = c.len.result - inside.start - c.args.offset in
    let whole =
    ring_long inside.start inside.present.items inside.samples.items c.args.self.now c.self.invariant c.self.view_is in
    let back = ap (λ (xs : List ℤ). length xs) (take_rest new split) ∙ length-drop split new in
    omega (
      arith,
      back,
      c.requires.within,
      whole,
      c.if-offset-samples.false,
      c.if-offset-ahead.false,
      c.fill_from-front.ensures.long,
    )

pub overflow_add-result : goal.overflow_add-result
overflow_add-result g c =
    let inside = c.self.inside in
    let new = c.args.samples.now in
    let split = c.len.result - inside.start - c.args.offset in
    let whole =
    ring_long inside.start inside.present.items inside.samples.items c.args.self.now c.self.invariant c.self.view_is in
    let back = ap (λ (xs : List ℤ). length xs) (take_rest new split) ∙ length-drop split new in
    let front = length-take split new in
    omega (
      arith,
      back,
      front,
      c.fill_from-front.ensures.most,
      c.fill_from-2.ensures.most,
      c.requires.within,
      whole,
      c.self.invariant.most,
    )

pub returns-clause-cells : goal.returns-clause-cells
returns-clause-cells g c =
    let inside = c.self.inside in
    let cells = cells_of inside.present.items inside.samples.items in
    let new = c.args.samples.now in
    let ahead = c.len.result - inside.start in
    let split = ahead - c.args.offset in
    let xs : List ℤ = take split new in
    let ys : List ℤ = take (length new - split) (drop split new) in
    let many = length-cells inside.present.items inside.samples.items c.self.invariant.alike in
    let whole =
    ring_long inside.start inside.present.items inside.samples.items c.args.self.now c.self.invariant c.self.view_is in
    let all : xs ++ ys ≡ new = ap (λ zs. xs ++ zs) (take_rest new split) ∙ take-append-drop split new in
    let front = length-take split new in
    let back = ap (λ (zs : List ℤ). length zs) (take_rest new split) ∙ length-drop split new in
    let e : ahead + inside.start ≡ length cells =
    omega (arith, many, c.len.ensures, inside.present.ok.0, c.self.invariant.within) in
    let to : c.args.offset + length xs ≡ ahead =
    omega (arith, front, c.if-offset-samples.false, c.if-offset-ahead.false) in
    let few : length ys ≤ inside.start =
    omega (arith, back, c.requires.within, whole, many, e, c.if-offset-samples.false, c.if-offset-ahead.false) in
    (over inside.start ahead c.args.offset cells
    (cells_of c.fill_from-front.new.present.items c.fill_from-front.new.samples.items)
    (cells_of c.fill_from-2.new.present.items c.fill_from-2.new.samples.items)
    xs ys new all c.fill_from-front.ensures.cells c.fill_from-2.ensures.cells e to few).0
    ∙ ap (λ (zs : List (Option ℤ)). fills zs c.args.offset new) c.self.view_is

pub returns-clause-count : goal.returns-clause-count
returns-clause-count g c =
    let inside = c.self.inside in
    let cells = cells_of inside.present.items inside.samples.items in
    let new = c.args.samples.now in
    let ahead = c.len.result - inside.start in
    let split = ahead - c.args.offset in
    let xs : List ℤ = take split new in
    let ys : List ℤ = take (length new - split) (drop split new) in
    let many = length-cells inside.present.items inside.samples.items c.self.invariant.alike in
    let whole =
    ring_long inside.start inside.present.items inside.samples.items c.args.self.now c.self.invariant c.self.view_is in
    let all : xs ++ ys ≡ new = ap (λ zs. xs ++ zs) (take_rest new split) ∙ take-append-drop split new in
    let front = length-take split new in
    let back = ap (λ (zs : List ℤ). length zs) (take_rest new split) ∙ length-drop split new in
    let e : ahead + inside.start ≡ length cells =
    omega (arith, many, c.len.ensures, inside.present.ok.0, c.self.invariant.within) in
    let to : c.args.offset + length xs ≡ ahead =
    omega (arith, front, c.if-offset-samples.false, c.if-offset-ahead.false) in
    let few : length ys ≤ inside.start =
    omega (arith, back, c.requires.within, whole, many, e, c.if-offset-samples.false, c.if-offset-ahead.false) in
    (λ i. c.fill_from-front.ensures.count i + c.fill_from-2.ensures.count i)
    ∙ (over inside.start ahead c.args.offset cells
    (cells_of c.fill_from-front.new.present.items c.fill_from-front.new.samples.items)
    (cells_of c.fill_from-2.new.present.items c.fill_from-2.new.samples.items)
    xs ys new all c.fill_from-front.ensures.cells c.fill_from-2.ensures.cells e to few).1
    ∙ ap (λ (zs : List (Option ℤ)). news zs c.args.offset new) c.self.view_is
