use Rattle.std.proofs.Common.{ℕ, ◌+◌, ◌++◌, List, map, sym, ap, ◌∙◌, append-nil, arith}
use Rattle.std.specs.Prelude.{filter}
use Rattle.frame_gate.specs.Packets.{ext_of}
use Rattle.frame_gate.proofs.MissingNumbers.{between, between-more, between-none}
use Rattle.frame_gate.proofs.Missed.{lacks, one_more}
use Rattle.frame_gate.proofs.waiting.unheld.Goals as goal

pub loop-number-preserved : goal.loop-number-preserved
loop-number-preserved g c =
    let n = c.loop-number.number in
    let out = c.loop-number.out.items in
    let cells = c.args.cells.now in
    let step = one_more cells n out c.ask_unheld.new.out.items (between (n + 1) c.args.to) c.in_ok-ask_unheld.ensures in
    record {
      items = step.0
          ∙ ap (λ (xs : List ℕ). out ++ map ext_of (filter (lacks cells) xs))
          (sym (between-more n c.args.to c.loop-number-test.true))
          ∙ c.loop-number.invariant.items;
      few = omega (arith, step.1, c.loop-number.invariant.few, c.loop-number-test.true);
    }

pub returns-clause-items : goal.returns-clause-items
returns-clause-items g c =
    let out = c.loop-number.out.items in
    let cells = c.args.cells.now in
    sym (append-nil out)
    ∙ ap (λ (xs : List ℕ). out ++ map ext_of (filter (lacks cells) xs))
    (sym (between-none c.loop-number.number c.args.to c.loop-number-test.false))
    ∙ c.loop-number.invariant.items

pub returns-clause-few : goal.returns-clause-few
returns-clause-few g c = omega (arith, c.loop-number.invariant.few)
