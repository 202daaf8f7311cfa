use Rattle.std.proofs.Common.{◌≡◌, ◌-◌, ◌+◌, ◌++◌, [], sym, ap, ◌∙◌, arith, append_assoc, append-nil, List}
use Rattle.std.specs.Option.{option_copied}
use Rattle.frame_gate.specs.Frame.{SourcePacket}
use Rattle.frame_gate.specs.inner.Cells.{held}
use Rattle.frame_gate.proofs.Pieces.{in_frame, collected, collected_more, collected_full}
use Rattle.frame_gate.proofs.cells.piece.Goals as goal

pub loop-number-preserved : goal.loop-number-preserved
loop-number-preserved g c =
    let at = held c.args.cells.now (option_copied c.args.newcomer) in
    let n = c.loop-number.number in
    let out = c.loop-number.out.items in
    let rest = collected at (n + 1) (c.args.to - (n + 1)) in
    let kept : c.push_found.new.out.items ≡ out ++ in_frame (option_copied c.find_held.result) =
    c.in_ok-push_found.ensures.items in
    record {
      kinds = c.in_ok-push_found.ensures.kinds c.loop-number.invariant.kinds;
      items =
          ap (λ (xs : List SourcePacket). xs ++ rest) (kept ∙ ap (λ o. out ++ in_frame o) c.find_held.ensures)
          ∙ append_assoc out (in_frame (at n)) rest
          ∙ ap (λ (xs : List SourcePacket). out ++ xs) (sym (collected_more at n c.args.to c.loop-number-test.true))
          ∙ c.loop-number.invariant.items;
    }

pub returns-clause-items : goal.returns-clause-items
returns-clause-items g c = λ ps row long.
    let at = held c.args.cells.now (option_copied c.args.newcomer) in
    let rest : c.args.to - c.loop-number.number ≡ 0 = omega arith in
    let none : collected at c.loop-number.number (c.args.to - c.loop-number.number) ≡ [] =
    ap (collected at c.loop-number.number) rest in
    sym (append-nil c.loop-number.out.items)
    ∙ ap (λ (xs : List SourcePacket). c.loop-number.out.items ++ xs) (sym none)
    ∙ c.loop-number.invariant.items
    ∙ collected_full at c.args.from c.args.to ps row long
