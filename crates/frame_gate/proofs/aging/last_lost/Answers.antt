use Rattle.std.proofs.Common.{ℕ, ◌+◌, List, sym, ap, ◌∙◌}
use Rattle.std.specs.Prelude.{filter, fold}
use Rattle.frame_gate.proofs.MissingNumbers.{between, between-more, between-none}
use Rattle.frame_gate.proofs.Missed.{gone, later, one_later, still_below}
use Rattle.frame_gate.proofs.aging.last_lost.Goals as goal

pub loop-number-preserved : goal.loop-number-preserved
loop-number-preserved g c =
    let n = c.loop-number.number in
    let f = gone c.args.cells.now c.args.limit c.args.marks.now in
    record {
      last =
          one_later f n c.loop-number.last c.later_lost-last.result (between (n + 1) c.args.to)
          c.later_lost-last.ensures
          ∙ ap (λ (xs : List ℕ). fold later c.loop-number.last (filter f xs))
          (sym (between-more n c.args.to c.loop-number-test.true))
          ∙ c.loop-number.invariant.last;
      below =
          still_below n c.args.to (f n) c.loop-number.last c.later_lost-last.result c.later_lost-last.ensures
          c.loop-number-test.true c.loop-number.invariant.below;
    }

pub returns-clause-last : goal.returns-clause-last
returns-clause-last g c =
    let f = gone c.args.cells.now c.args.limit c.args.marks.now in
    ap (λ (xs : List ℕ). fold later c.loop-number.last (filter f xs))
    (sym (between-none c.loop-number.number c.args.to c.loop-number-test.false))
    ∙ c.loop-number.invariant.last
