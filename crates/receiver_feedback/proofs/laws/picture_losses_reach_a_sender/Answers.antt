use Rattle.std.proofs.Common.{◌≡◌, ℕ, true, Option, None, Some, cond, refl, ap, ◌∙◌}
use Rattle.std.specs.Option.{is_some, option_map, option_and_then}
use Rattle.rtp_codec.specs.declared.address.Address.{Address}
use Rattle.desk_rows.specs.declared.row.Member.{Member as MemberRow}
use Rattle.desk_rows.specs.Desk.{Desk}
use Rattle.topology.specs.Looking.{member_at, sender_of, slot_at}
use Rattle.topology.specs.Choice.{choice}
use Rattle.receiver_feedback.specs.PassedUp.{is_of_member_at, with_address, pli_up}
use Rattle.receiver_feedback.proofs.laws.picture_losses_reach_a_sender.Goals as goal

-- a source whose member is there has an address
has_address : (source : ℕ) (o : Option MemberRow) → is_some o ≡ true
    → is_some {T = Address × ℕ} (option_map (λ (m : MemberRow). (m.address, source)) o) ≡ true
has_address source None h = h
has_address source (Some m) h = refl

passed : (d : Desk) (from : Address) (out_ssrc source : ℕ) → is_of_member_at d from (slot_at d out_ssrc) ≡ true
    → choice d out_ssrc ≡ Some source → is_some (option_and_then (member_at d) (sender_of d source)) ≡ true
    → is_some (pli_up d from out_ssrc) ≡ true
passed d from out_ssrc source its chose there =
    ap (λ b. is_some (cond b (option_and_then (with_address d) (choice d out_ssrc)) None)) its
    ∙ ap (λ o. is_some (option_and_then (with_address d) o)) chose
    ∙ has_address source (option_and_then (member_at d) (sender_of d source)) there

pub returns : goal.returns
returns c = λ d from out_ssrc source h its chose.
    passed d from out_ssrc source its chose (c.choices_stay_in_the_room.ensures.sender d out_ssrc source h chose)
