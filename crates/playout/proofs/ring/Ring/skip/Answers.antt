use Rattle.std.proofs.Common.{◌≡◌, ◌∙◌, ◌+◌, ◌-◌, ◌≤◌, ℕ, ℤ, ap, sym, subst, List, Option, None, length, drop}
use Rattle.std.proofs.Common.{replicate, ◌++◌, arith}
use Rattle.playout.specs.inner.Agrees.{Agrees}
use Rattle.playout.specs.inner.Cells.{cells_of, turned, emptied}
use Rattle.playout.proofs.Arrays.{length-cells}
use Rattle.playout.proofs.Copied.{moved_on}
use Rattle.playout.proofs.Turned.{ring_long, moved, at_end, length-moved}
use Rattle.playout.proofs.ring.Ring.skip.Goals as goal

pub clear_from-requires-else-count-ahead-2-clause-within : goal.clear_from-requires-else-count-ahead-2-clause-within
clear_from-requires-else-count-ahead-2-clause-within g c =
    let inside = c.self.inside in
    omega (
      arith,
      c.requires,
      c.clear_from-else-count-ahead.ensures.long,
      c.len.ensures,
      inside.present.ok.0,
      c.self.invariant.within,
      ring_long inside.start inside.present.items inside.samples.items c.args.self.now c.self.invariant c.self.view_is,
    )

pub invariant_of-self-else-count-ahead : goal.invariant_of-self-else-count-ahead
invariant_of-self-else-count-ahead g c =
    let inside = c.self.inside in
    let long = c.clear_from-else-count-ahead-2.ensures.long ∙ c.clear_from-else-count-ahead.ensures.long in
    record {
      alike = c.self.invariant.alike ∙ sym long;
      within =
          omega (
            arith,
            c.requires,
            long,
            c.len.ensures,
            inside.present.ok.0,
            c.self.invariant.within,
            ring_long inside.start inside.present.items inside.samples.items c.args.self.now c.self.invariant
                c.self.view_is,
          );
      most = omega (arith, long, c.self.invariant.most);
    }

pub returns-then-count-ahead-clause-agrees : goal.returns-then-count-ahead-clause-agrees
returns-then-count-ahead-clause-agrees g c p pairs a =
    let inside = c.self.inside in
    let n = c.args.count in
    let cells = cells_of inside.present.items inside.samples.items in
    let many = length-cells inside.present.items inside.samples.items c.self.invariant.alike in
    let le : inside.start + n ≤ length cells =
    omega (arith, c.if-count-ahead.true, c.len.ensures, inside.present.ok.0, many, c.self.invariant.within) in
    let is =
    ap (turned (inside.start + n)) c.clear_from.ensures.cells
    ∙ moved inside.start n cells le
    ∙ ap (λ (xs : List (Option ℤ)). drop n (xs ++ replicate n None)) c.self.view_is in
    moved_on c.args.self.now (turned (inside.start + n) (cells_of c.clear_from.new.present.items inside.samples.items))
    pairs p n is a

pub returns-then-count-ahead-clause-long : goal.returns-then-count-ahead-clause-long
returns-then-count-ahead-clause-long g c =
    let inside = c.self.inside in
    let n = c.args.count in
    let cells = cells_of inside.present.items inside.samples.items in
    let many = length-cells inside.present.items inside.samples.items c.self.invariant.alike in
    let le : inside.start + n ≤ length cells =
    omega (arith, c.if-count-ahead.true, c.len.ensures, inside.present.ok.0, many, c.self.invariant.within) in
    let is =
    ap (turned (inside.start + n)) c.clear_from.ensures.cells
    ∙ moved inside.start n cells le
    ∙ ap (λ (xs : List (Option ℤ)). drop n (xs ++ replicate n None)) c.self.view_is in
    length-moved n c.args.self.now
    (turned (inside.start + n) (cells_of c.clear_from.new.present.items inside.samples.items)) is

pub returns-else-count-ahead-clause-agrees : goal.returns-else-count-ahead-clause-agrees
returns-else-count-ahead-clause-agrees g c p pairs a =
    let inside = c.self.inside in
    let start = inside.start in
    let ss = inside.samples.items in
    let ahead = c.len.result - start in
    let m = c.args.count - ahead in
    let first = cells_of c.clear_from-else-count-ahead.new.present.items ss in
    let many = length-cells inside.present.items ss c.self.invariant.alike in
    let firsts =
    length-cells c.clear_from-else-count-ahead.new.present.items ss
    (c.self.invariant.alike ∙ sym c.clear_from-else-count-ahead.ensures.long) in
    let whole = ring_long start inside.present.items ss c.args.self.now c.self.invariant c.self.view_is in
    let le : start + ahead ≤ length (cells_of inside.present.items ss) =
    omega (arith, c.len.ensures, inside.present.ok.0, many, c.self.invariant.within) in
    let end : length first ≡ start + ahead =
    omega (
      arith,
      firsts,
      c.clear_from-else-count-ahead.ensures.long,
      c.len.ensures,
      inside.present.ok.0,
      c.self.invariant.within,
    ) in
    let few : 0 + m ≤ length first =
    omega (
      arith,
      firsts,
      c.clear_from-else-count-ahead.ensures.long,
      c.requires,
      c.len.ensures,
      inside.present.ok.0,
      c.self.invariant.within,
      whole,
    ) in
    let at : m ≡ 0 + m = omega arith in
    let sum : p + ahead + m ≡ p + c.args.count = omega (arith, c.if-count-ahead.false) in
    let is_first =
    sym (at_end first)
    ∙ ap (λ k. turned k first) end
    ∙ ap (turned (start + ahead)) c.clear_from-else-count-ahead.ensures.cells
    ∙ moved start ahead (cells_of inside.present.items ss) le
    ∙ ap (λ (xs : List (Option ℤ)). drop ahead (xs ++ replicate ahead None)) c.self.view_is in
    let is_second =
    ap (turned m) c.clear_from-else-count-ahead-2.ensures.cells
    ∙ ap (λ k. turned k (emptied 0 m first)) at
    ∙ moved 0 m first few in
    let new = turned m (cells_of c.clear_from-else-count-ahead-2.new.present.items ss) in
    subst (λ (q : ℕ). Agrees new pairs q) sum (moved_on (turned 0 first) new pairs (p + ahead) m is_second
    (moved_on c.args.self.now (turned 0 first) pairs p ahead is_first a))

pub returns-else-count-ahead-clause-long : goal.returns-else-count-ahead-clause-long
returns-else-count-ahead-clause-long g c =
    let inside = c.self.inside in
    let ss = inside.samples.items in
    let m = c.args.count - (c.len.result - inside.start) in
    let ps = c.clear_from-else-count-ahead-2.new.present.items in
    let long = c.clear_from-else-count-ahead-2.ensures.long ∙ c.clear_from-else-count-ahead.ensures.long in
    let whole = ring_long inside.start inside.present.items ss c.args.self.now c.self.invariant c.self.view_is in
    ring_long m ps ss (turned m (cells_of ps ss)) (record {
      alike = c.self.invariant.alike ∙ sym long;
      within = omega (arith, c.requires, long, c.len.ensures, inside.present.ok.0, c.self.invariant.within, whole);
      most = omega (arith, long, c.self.invariant.most);
    }) (λ i. turned m (cells_of ps ss)) ∙ long ∙ sym whole
