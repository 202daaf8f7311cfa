use Rattle.std.proofs.Common.{◌++◌, ap, ◌∙◌, subst}
use Rattle.std.proofs.lemmas.List.{take_all}
use Rattle.std.proofs.lemmas.List.Sums.{fold_more}
use Rattle.operator_lines.specs.Cut.{cut, with_octet, lines_in}
use Rattle.operator_lines.specs.Fed.{Kept, Stands, texts}
use Rattle.operator_lines.specs.inner.Holds.{in_place, unless}
use Rattle.operator_lines.proofs.CutLemmas.{fed_lines, at_first, all_fed, carried_step, unless-true, unless-false}
use Rattle.operator_lines.proofs.CutLemmas.{kept_if_ended, kept_if_not}
use Rattle.operator_lines.proofs.feeding.Lines.feed.Goals.{then-branch, else-branch, then-ended}
use Rattle.operator_lines.proofs.feeding.Lines.feed.Goals.{else-ended+in_ok-lengthen}
use Rattle.operator_lines.proofs.feeding.Lines.feed.Goals as goal

pub loop-octet-preserved : goal.loop-octet-preserved
loop-octet-preserved g c = λ before k h.
    rw (fold_more with_octet k c.args.octets.now c.loop-octet.octet-index 0 c.loop-octet-test.true)
    (carried_step before _ _ c.loop-octet.next c.take.new.self _ _ c.carried-carried.result.now c.args.self.now.pending
    c.loop-octet.ended c.in_ok-take.field-0 c.if-branch.ended c.carried-carried.ensures
    (elim c.if-branch.branch [
      | then-branch w ↦
          unless-true c.loop-octet.ended c.in_ok-take.field-0 c.if-branch.ended c.args.self.now.pending w.if-branch.true
          w.ended-is
      | else-branch w ↦
          unless-false c.loop-octet.ended c.in_ok-take.field-0 c.if-branch.ended c.args.self.now.pending
          w.if-branch.false
          w.ended-is
    ])
    (c.in_ok-take.ensures before _)
    (c.loop-octet.invariant before k h))

pub returns-clause-fed : goal.returns-clause-fed
returns-clause-fed g c = λ before r.
    let h = c.loop-octet.invariant (lines_in (cut before)) (cut before) (at_first (cut before) c.args.self.now r) in
    let f =
    fed_lines before c.args.octets.now (in_place (unless c.loop-octet.ended c.args.self.now.pending) c.loop-octet.next)
    (texts c.loop-octet.lines.items) (all_fed _ _ _ _ c.args.octets.now c.loop-octet.octet-index
    (take_all c.loop-octet.octet-index c.args.octets.now c.loop-octet-test.false) h) in
    record { new_lines = f.0; is_long = ap (λ (q : Kept). q.too_long) c.next-2.view_is ∙ f.1.long }

pub returns-clause-kept : goal.returns-clause-kept
returns-clause-kept g c = λ before r.
    let h = c.loop-octet.invariant (lines_in (cut before)) (cut before) (at_first (cut before) c.args.self.now r) in
    let f =
    fed_lines before c.args.octets.now (in_place (unless c.loop-octet.ended c.args.self.now.pending) c.loop-octet.next)
    (texts c.loop-octet.lines.items) (all_fed _ _ _ _ c.args.octets.now c.loop-octet.octet-index
    (take_all c.loop-octet.octet-index c.args.octets.now c.loop-octet-test.false) h) in
    subst (λ (q : Kept). Stands (cut (before ++ c.args.octets.now)) q)
    (elim c.if-ended.branch [
      | then-ended w ↦
          kept_if_ended c.loop-octet.ended c.args.self.now.pending c.loop-octet.next c.if-ended.self w.if-ended.true
          w.self-is
      | else-ended+in_ok-lengthen w ↦
          kept_if_not c.loop-octet.ended c.args.self.now.pending c.loop-octet.next c.if-ended.self w.if-ended.false
          (w.self-is ∙ w.in_ok-lengthen.ensures.ok)
    ]) f.1
