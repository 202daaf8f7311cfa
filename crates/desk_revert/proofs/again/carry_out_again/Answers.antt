use Rattle.std.proofs.Common.{◌+◌, length, fold, sym, ap, ◌∙◌, arith}
use Rattle.desk_edit.specs.Commands.{desk_after}
use Rattle.desk_edit.specs.Groups.{part_or_later}
use Rattle.desk_edit.specs.AsIf.{first_in_the_way}
use Rattle.desk_revert.proofs.again.carry_out_again.Goals as goal

pub loop-command-preserved : goal.loop-command-preserved
loop-command-preserved g c =
    let was = c.loop-command.invariant in
    let d = c.loop-command.rows in
    let command = c.in-Some.command.now in
    let later = c.in-Some.later.now in
    let part = c.loop-command.part in
    let left = c.in-Some.ensures.cases.0 in
    let next = c.in_ok-carry_out_one.ensures.done in
    record {
      count = omega (arith, ap length left, was.count);
      to = ap (λ x. fold desk_after x later) next ∙ sym (ap (fold desk_after d) left) ∙ was.to;
      refused =
          ap (λ x. first_in_the_way (part + 1) x later) next
          ∙ sym (ap (λ why. part_or_later part why (first_in_the_way (part + 1) (desk_after d command) later))
          c.in_ok-carry_out_one.ensures.free)
          ∙ sym (ap (first_in_the_way part d) left)
          ∙ was.refused;
    }
