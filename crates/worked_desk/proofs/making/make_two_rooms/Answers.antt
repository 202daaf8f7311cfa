use Rattle.std.proofs.Common.{refl}
use Rattle.desk_edit.specs.Commands.{desk_after}
use Rattle.worked_desk.proofs.making.make_two_rooms.Goals as goal

pub returns : goal.returns
unfolding desk_after
returns c =
    simp (
      c.in_ok-carry_out-11.ensures,
      c.subscribe.ensures,
      c.in_ok-carry_out-10.ensures,
      c.slot-2.ensures,
      c.in_ok-carry_out-9.ensures,
      c.slot.ensures,
      c.in_ok-carry_out-8.ensures,
      c.source-3.ensures,
      c.in_ok-carry_out-7.ensures,
      c.source-2.ensures,
      c.in_ok-carry_out-6.ensures,
      c.source.ensures,
      c.in_ok-carry_out-5.ensures,
      c.member-3.ensures,
      c.in_ok-carry_out-4.ensures,
      c.member-2.ensures,
      c.in_ok-carry_out-3.ensures,
      c.member.ensures,
      c.in_ok-carry_out-2.ensures,
      c.room-2.ensures,
      c.in_ok-carry_out.ensures,
      c.room.ensures,
      c.in-Ok.ensures.desk,
    ) refl
