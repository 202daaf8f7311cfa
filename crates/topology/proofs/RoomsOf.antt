-- The rooms of rows that are found.
use Rattle.std.proofs.Common.{◌≡◌, ℕ, true, Option, None, Some, refl, sym, ap, ◌∙◌, eqb-true}
use Rattle.std.specs.Prelude.{option_map, option_and_then}
use Rattle.desk_rows.specs.declared.row.Row.{Row}
use Rattle.desk_rows.specs.declared.row.Row.TheVariants.{Room, Member, Source, Slot}
use Rattle.desk_rows.specs.declared.row.Room.{Room as RoomRow}
use Rattle.desk_rows.specs.declared.row.Member.{Member as MemberRow}
use Rattle.desk_rows.specs.declared.row.Source.{Source as SourceRow}
use Rattle.desk_rows.specs.declared.row.Slot.{Slot as SlotRow}
use Rattle.desk_rows.specs.declared.key.Key.TheVariants as keys
use Rattle.desk_rows.specs.Desk.{Desk, row_at, room_of_member as room_in, room_of_found, room_at, same_room}
use Rattle.desk_rows.specs.Getters.{member_in, room_row_at, member_at, source_at, slot_at}
use Rattle.desk_rows.specs.laws.GetterLaws.{under_room, under_member, under_source, under_slot}
use Rattle.desk_rows.specs.laws.GetterLaws.{number_of_room, number_of_member}
use Rattle.topology.specs.Looking.{room_of_member}

pub room_inside : (o : Option Row) → room_in o ≡ option_map (λ m. m.room) (option_and_then member_in o)
room_inside (Some (Member m)) = refl
room_inside _ = refl

-- a source's room is its member's
pub room_at_source : (d : Desk) (n : ℕ)
    → room_at d (keys.Source n) ≡ option_and_then (λ (s : SourceRow). room_of_member d s.member) (source_at d n)
room_at_source d n = ap (room_of_found d) (under_source d n) ∙ by (source_at d n)
  where
    by : (o : Option SourceRow)
        → room_of_found d (option_map Source o) ≡ option_and_then (λ (s : SourceRow). room_of_member d s.member) o
    by None = refl
    by (Some s) = room_inside (row_at d (keys.Member s.member))

-- a slot's room is its member's
pub room_at_slot : (d : Desk) (n : ℕ)
    → room_at d (keys.Slot n) ≡ option_and_then (λ (s : SlotRow). room_of_member d s.member) (slot_at d n)
room_at_slot d n = ap (room_of_found d) (under_slot d n) ∙ by (slot_at d n)
  where
    by : (o : Option SlotRow)
        → room_of_found d (option_map Slot o) ≡ option_and_then (λ (s : SlotRow). room_of_member d s.member) o
    by None = refl
    by (Some s) = room_inside (row_at d (keys.Member s.member))

pub room_at_member : (d : Desk) (n : ℕ) → room_at d (keys.Member n) ≡ room_of_member d n
room_at_member d n = ap (room_of_found d) (under_member d n) ∙ by (member_at d n)
  where
    by : (o : Option MemberRow) → room_of_found d (option_map Member o) ≡ option_map (λ m. m.room) o
    by None = refl
    by (Some m) = refl

-- what is in the room of a room's row is in that room
pub with_room : (d : Desk) (n : ℕ) (o : Option ℕ) → same_room (room_at d (keys.Room n)) o ≡ true → o ≡ Some n
with_room d n o h =
    by (room_row_at d n) o (number_of_room d n) (sym (ap (λ f. same_room (room_of_found d f) o) (under_room d n)) ∙ h)
  where
    by : (f : Option RoomRow) (o : Option ℕ) → ((r : RoomRow) → f ≡ Some r → r.room ≡ n)
        → same_room (room_of_found d (option_map Room f)) o ≡ true → o ≡ Some n
    by None o number h = absurd (cc)
    by (Some r) None number h = absurd (cc)
    by (Some r) (Some q) number h = ap Some (sym (eqb-true r.room q h) ∙ number r refl)

-- a member that is found has the number
pub number_of_found : (d : Desk) (n : ℕ) (m : MemberRow) → member_at d n ≡ Some m → m.member ≡ n
number_of_found d n m h = number_of_member d n m h
