use Rattle.std.proofs.Common.{rules, ◌≡◌, true, nat_eq, Some, ap, sym, ◌∙◌}
use Rattle.std.specs.Option.{is_some}
use Rattle.receiver_feedback.specs.PassedUp.{is_of_member_at}
use Rattle.topology.specs.Choice.{choice}
use Rattle.topology.specs.Looking.{is_this, member_from, slot_at}
use Rattle.worked_media.proofs.feedback_laws.a_picture_loss_reaches_a_sender.Goals as goal

pub returns-in-None : goal.returns-in-None
returns-in-None c =
    let d = c.args.rows.now in
    let from = c.args.from.now in
    let same : nat_eq c.in-Some-member_from.member c.in-Some.slot.member ≡ true = search rules in
    let member : member_from d from ≡ Some c.in-Some-member_from.member = search rules in
    let slot : slot_at d c.args.out_ssrc ≡ Some c.in-Some.slot = search rules in
    let chose : choice d c.args.out_ssrc ≡ Some c.in-Some-choice.source = search rules in
    let asks = ap (is_of_member_at d from) slot ∙ ap (is_this c.in-Some.slot.member) member ∙ same in
    ap is_some (sym c.in-None.is ∙ c.pli_up.ensures)
    ∙ c.picture_losses_reach_a_sender.ensures d from c.args.out_ssrc c.in-Some-choice.source c.slot_at.ensures.good asks
    chose
