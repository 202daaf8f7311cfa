use Rattle.std.proofs.Common.{◌≡◌, ◌∙◌, ◌+◌, ◌-◌, ◌++◌, ℤ, ap, sym, List, Option, length, take, drop, map, count_by}
use Rattle.std.proofs.Common.{is_some, cond, arith}
use Rattle.std.proofs.lemmas.List.{map-append}
use Rattle.std.proofs.lemmas.List.Sums.{sum_by-append}
use Rattle.playout.specs.inner.Cells.{cells_of, heard}
use Rattle.playout.proofs.Arrays.{length-cells}
use Rattle.playout.proofs.Turned.{ring_long, first_of_turned}
use Rattle.playout.proofs.ring.Ring.read_first.Goals as goal

pub returns-clause-samples : goal.returns-clause-samples
returns-clause-samples g c =
    let inside = c.self.inside in
    let cells = cells_of inside.present.items inside.samples.items in
    let n = length c.args.out.now in
    let split = c.min-split.result in
    let many = length-cells inside.present.items inside.samples.items c.self.invariant.alike in
    let whole =
    ring_long inside.start inside.present.items inside.samples.items c.args.self.now c.self.invariant c.self.view_is in
    let one : List (Option ℤ) = take split (drop inside.start cells) in
    let two : List (Option ℤ) = take (n - split) cells in
    let both : one ++ two ≡ take n c.args.self.now =
    first_of_turned inside.start n split cells (omega (arith, many, c.self.invariant.within))
    (omega (arith, many, whole, c.requires.within))
    (omega (arith, c.min-split.ensures, c.len.ensures, inside.present.ok.0, many))
    ∙ ap (take n) c.self.view_is in
    let front =
    c.read_from.ensures.samples
    ∙ ap (λ k. map heard (take k (drop inside.start cells)))
    (omega (arith, c.split_at_mut-first.ensures.front_len, c.min-split.ensures)) in
    let back =
    c.read_from-2.ensures.samples
    ∙ ap (λ k. map heard (take k cells)) (omega (arith, c.split_at_mut-first.ensures.back_len, c.min-split.ensures)) in
    (λ i. front i ++ back i) ∙ sym (map-append heard one two) ∙ ap (map heard) both

pub returns-clause-count : goal.returns-clause-count
returns-clause-count g c =
    let inside = c.self.inside in
    let cells = cells_of inside.present.items inside.samples.items in
    let n = length c.args.out.now in
    let split = c.min-split.result in
    let many = length-cells inside.present.items inside.samples.items c.self.invariant.alike in
    let whole =
    ring_long inside.start inside.present.items inside.samples.items c.args.self.now c.self.invariant c.self.view_is in
    let one : List (Option ℤ) = take split (drop inside.start cells) in
    let two : List (Option ℤ) = take (n - split) cells in
    let both : one ++ two ≡ take n c.args.self.now =
    first_of_turned inside.start n split cells (omega (arith, many, c.self.invariant.within))
    (omega (arith, many, whole, c.requires.within))
    (omega (arith, c.min-split.ensures, c.len.ensures, inside.present.ok.0, many))
    ∙ ap (take n) c.self.view_is in
    let front =
    c.read_from.ensures.count
    ∙ ap (λ k. count_by is_some (take k (drop inside.start cells)))
    (omega (arith, c.split_at_mut-first.ensures.front_len, c.min-split.ensures)) in
    let back =
    c.read_from-2.ensures.count
    ∙ ap (λ k. count_by is_some (take k cells))
    (omega (arith, c.split_at_mut-first.ensures.back_len, c.min-split.ensures)) in
    (λ i. front i + back i)
    ∙ sym (sum_by-append (λ (o : Option ℤ). cond (is_some o) 1 0) one two)
    ∙ ap (count_by is_some) both

pub read_from-requires-2-clause-within : goal.read_from-requires-2-clause-within
read_from-requires-2-clause-within g c =
    let inside = c.self.inside in
    let whole =
    ring_long inside.start inside.present.items inside.samples.items c.args.self.now c.self.invariant c.self.view_is in
    omega (arith, c.split_at_mut-first.ensures.back_len, whole, c.requires.within)

pub overflow_add-result : goal.overflow_add-result
overflow_add-result g c =
    let inside = c.self.inside in
    let whole =
    ring_long inside.start inside.present.items inside.samples.items c.args.self.now c.self.invariant c.self.view_is in
    omega (
      arith,
      c.read_from.ensures.most,
      c.read_from-2.ensures.most,
      c.split_at_mut-first.ensures.back_len,
      c.split_at_mut-first.ensures.front_len,
      c.min-split.ensures,
      whole,
      c.requires.within,
      c.self.invariant.most,
    )
