use Rattle.std.proofs.Common.{◌≡◌, ◌+◌, ◌∙◌, ℕ, ℤ, pos, List, arith, rules, ap, sym, get_or, cond, Bool}
use mir.Val.{SFits}
use mir.Syntax.{w16}
use Rattle.std.proofs.lemmas.Int.{to_z-of_z}
use Rattle.std.proofs.lemmas.List.{at_drop_all}
use Rattle.playout.specs.inner.Agrees.{filled}
use Rattle.playout.specs.inner.Cells.{cells_of, fills, news}
use Rattle.playout.proofs.Arrays.{fills_more}
use Rattle.playout.proofs.places.fill_each.Goals.{then-fill, else-fill}
use Rattle.playout.proofs.places.fill_each.Goals as goal

-- one where it is true
abbrev one : Bool → ℕ
one b = cond b 1 0

pub loop-k-preserved : goal.loop-k-preserved
loop-k-preserved c =
    let now = cells_of c.loop-k.present c.loop-k.samples in
    let at = c.args.at + c.loop-k.k in
    let x = get_or c.args.new.now c.loop-k.k (pos 0) in
    let fits : SFits w16 x = search rules in
    let cells : cells_of c.fill.new.present c.fill.new.samples ≡ filled now at x =
    c.fill.ensures.cells ∙ ap (filled now at) (to_z-of_z w16 _ fits) in
    let more =
    fills_more now (cells_of c.fill.new.present c.fill.new.samples) c.args.at c.loop-k.k c.args.new.now x
    c.loop-k-test.true (λ i. x) cells in
    let kept = ap one c.fill.ensures.new in
    record {
      long = c.fill.ensures.long ∙ c.loop-k.invariant.long;
      alike = c.fill.ensures.alike;
      most = elim c.if-fill.branch [
        | then-fill w ↦ omega (arith, w.count-is, c.loop-k.invariant.most)
        | else-fill w ↦ omega (arith, w.count-is, c.loop-k.invariant.most)
      ];
      cells = more.0 ∙ c.loop-k.invariant.cells;
      count = elim c.if-fill.branch [
        | then-fill w ↦ omega (arith, w.count-is, ap one (sym w.if-fill.true), kept, more.1, c.loop-k.invariant.count)
        | else-fill w ↦ omega (arith, w.count-is, ap one (sym w.if-fill.false), kept, more.1, c.loop-k.invariant.count)
      ];
    }

pub returns : goal.returns
returns c =
    let now = cells_of c.loop-k.present c.loop-k.samples in
    let at = c.args.at + c.loop-k.k in
    let none = at_drop_all (λ (xs : List ℤ). news now at xs) c.args.new.now c.loop-k.k c.loop-k-test.false in
    record {
      cells =
          sym (at_drop_all (λ (xs : List ℤ). fills now at xs) c.args.new.now c.loop-k.k c.loop-k-test.false)
          ∙ c.loop-k.invariant.cells;
      count = omega (arith, none, c.loop-k.invariant.count);
      most = omega (arith, c.loop-k.invariant.most, c.loop-k-test.false, c.loop-k.auto.k-end);
      long = c.loop-k.invariant.long;
      alike = c.loop-k.invariant.alike;
    }
