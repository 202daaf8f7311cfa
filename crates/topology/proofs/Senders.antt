-- The source that a slot chose has a member.
use Rattle.std.proofs.Common.{◌≡◌, ℕ, true, Option, None, Some, refl, sym, ap, ◌∙◌}
use Rattle.std.specs.Option.{is_some, option_map, option_and_then}
use Rattle.desk_rows.specs.declared.row.Member.{Member as MemberRow}
use Rattle.desk_rows.specs.declared.row.Source.{Source as SourceRow}
use Rattle.desk_rows.specs.declared.key.Key.TheVariants as keys
use Rattle.desk_rows.specs.Desk.{Desk, good, room_at, same_room}
use Rattle.topology.specs.Looking.{member_at, source_at, sender_of, room_of_member}
use Rattle.topology.specs.Choice.{choice}
use Rattle.topology.proofs.InRoom.{in_room}
use Rattle.topology.proofs.RoomsOf.{room_at_source}

-- what is in a room is there
in_a_room : (a b : Option ℕ) → same_room a b ≡ true → is_some a ≡ true
in_a_room None b h = h
in_a_room (Some room) b h = refl

-- a source that is in a room has a member
pub has_member : (d : Desk) (source : ℕ) → is_some (room_at d (keys.Source source)) ≡ true
    → is_some (option_and_then (member_at d) (sender_of d source)) ≡ true
has_member d source there = by (source_at d source) (sym (ap is_some (room_at_source d source)) ∙ there)
  where
    its : (o : Option MemberRow) → is_some (option_map (λ m. m.room) o) ≡ true → is_some o ≡ true
    its None h = h
    its (Some m) h = refl

    by : (o : Option SourceRow) → is_some (option_and_then (λ s. room_of_member d s.member) o) ≡ true
        → is_some (option_and_then (member_at d) (option_map (λ s. s.member) o)) ≡ true
    by None h = h
    by (Some s) h = its (member_at d s.member) h

pub chosen_has_member : (d : Desk) (out_ssrc source : ℕ) → good d ≡ true → choice d out_ssrc ≡ Some source
    → is_some (option_and_then (member_at d) (sender_of d source)) ≡ true
chosen_has_member d out_ssrc source h chose =
    has_member d source
    (in_a_room (room_at d (keys.Source source)) (room_at d (keys.Slot out_ssrc)) (in_room d out_ssrc source h chose))
