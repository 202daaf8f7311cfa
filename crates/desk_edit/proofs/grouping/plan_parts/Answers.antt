use Rattle.std.proofs.Common.{◌++◌, ◌∷◌, [], ◌+◌, length, fold, sym, ap, ◌∙◌, append_assoc, arith}
use Rattle.std.proofs.lemmas.Bool.{and_from}
use Rattle.std.proofs.lemmas.List.{length-append}
use Rattle.std.proofs.lemmas.List.Sums.{fold_push}
use Rattle.std.specs.Vec.{vec_len}
use Rattle.undo_log.specs.laws.ListLaws.{all_fit-push}
use Rattle.desk_rows.specs.Exchange.{fits, after}
use Rattle.desk_edit.specs.Commands.{desk_after}
use Rattle.desk_edit.specs.Groups.{part_or_later, part_refused}
use Rattle.desk_edit.proofs.grouping.plan_parts.Goals as goal

pub loop-command-preserved : goal.loop-command-preserved
loop-command-preserved g c =
    let was = c.loop-command.invariant in
    let d = c.loop-command.rows in
    let e = c.in_ok-edit.edit in
    let start = c.args.rows.now in
    let command = c.in-Some.command.now in
    let later = c.in-Some.later.now in
    let part = vec_len c.loop-command.edits in
    let left = c.in-Some.ensures.cases.0 in
    let next = c.absorb_fitting.ensures ∙ c.in_ok-edit.ensures.carries_out in
    record {
      more = was.more ++ e ∷ [];
      few = omega (arith, ap length left, was.few, c.push_reserved.ensures.len);
      capacity =
          omega (arith, ap length left, was.capacity, c.push_reserved.ensures.len, c.push_reserved.ensures.capacity);
      room = c.push_reserved.ensures.capacity ∙ was.room;
      all =
          c.push_reserved.ensures.items
          ∙ ap (λ es. es ++ e ∷ []) was.all
          ∙ append_assoc c.args.edits.now.items was.more (e ∷ []);
      fit =
          all_fit-push fits after start was.more e
          ∙ and_from _ _ was.fit (ap (λ x. fits x e) was.leads ∙ c.in_ok-edit.ensures.fits);
      leads = fold_push after start was.more e ∙ ap (λ x. after x e) was.leads ∙ sym c.absorb_fitting.ensures;
      to = ap (λ x. fold desk_after x later) next ∙ sym (ap (fold desk_after d) left) ∙ was.to;
      each = omega (arith, length-append was.more (e ∷ []), ap length left, was.each);
      refused =
          (λ i. part_refused (c.push_reserved.ensures.len i) (next i) later)
          ∙ sym (ap (λ why. part_or_later part why (part_refused (part + 1) (desk_after d command) later))
          c.in_ok-edit.ensures.accepted)
          ∙ sym (ap (part_refused part d) left) ∙ was.refused;
    }
