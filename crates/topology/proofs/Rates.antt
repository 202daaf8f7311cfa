-- On a good desk a room has the clock rate that its row says, and a member whose codec is PCMU is in a room at 8000 Hz.
use Rattle.std.proofs.Common.{◌≡◌, ℕ, true, ◌&&◌, Some, sym, ap}
use Rattle.std.proofs.Common.{◌∙◌, eqb-true}
use Rattle.std.specs.Prelude.{option_map, option_and_then}
use Rattle.std.specs.List.{list_any}
use Rattle.std.proofs.lemmas.Bool.{and_parts}
use Rattle.desk_rows.specs.declared.row.Row.TheVariants.{Room, Member}
use Rattle.desk_rows.specs.declared.row.Room.{Room as RoomRow}
use Rattle.desk_rows.specs.declared.row.Member.{Member as MemberRow}
use Rattle.desk_rows.specs.declared.row.Codec.TheVariants.{Pcmu}
use Rattle.desk_rows.specs.declared.key.Key.TheVariants as keys
use Rattle.desk_rows.specs.Row.{has_key, names, carries, suits, is_in_range}
use Rattle.desk_rows.specs.Row.Want.{Carries}
use Rattle.desk_rows.specs.Desk.{Desk, good, rows_of, row_at, is_named_there, are_together, all_suit, has_few_audio}
use Rattle.desk_rows.specs.Desk.{obeys}
use Rattle.desk_rows.specs.Getters.{room_in, member_at}
use Rattle.desk_rows.specs.laws.Laws.{good_parts}
use Rattle.desk_rows.specs.laws.GetterLaws.{room_with, under_member}
use Rattle.topology.specs.Looking.{rate_of_found, room_rate, rate_of}
use Rattle.topology.proofs.GoodRows.{of_found, found_any}

-- ---- rooms

pub of_row : (d : Desk) (room : ℕ) (r : RoomRow) → good d ≡ true → row_at d (keys.Room room) ≡ Some (Room r)
    → room_rate d room ≡ r.rate
of_row d room r h e = ap (λ o. rate_of_found (option_and_then room_in o)) e

-- ---- members

-- the room of a member has a row
its_room : (d : Desk) (member : ℕ) (m : MemberRow) → good d ≡ true → row_at d (keys.Member member) ≡ Some (Member m)
    → (r : RoomRow) × (row_at d (keys.Room m.room) ≡ Some (Room r))
its_room d member m h e =
    let named = (of_found (is_named_there d) (keys.Member member) (Member m) (rows_of d) (good_parts d h).named e).0 in
    let there =
    found_any (keys.Room m.room) (rows_of d)
    (and_parts (list_any (has_key (keys.Room m.room)) (rows_of d)) true named).0 in
    let key = (of_found (is_named_there d) (keys.Room m.room) there.0 (rows_of d) (good_parts d h).named there.1).1 in
    let is = room_with m.room there.0 key in
    (is.0, there.1 ∙ ap Some is.1)

pub of_pcmu : (d : Desk) (member : ℕ) (m : MemberRow) → good d ≡ true → member_at d member ≡ Some m → m.codec ≡ Pcmu
    → rate_of d member ≡ Some 8000
of_pcmu d member m h found is_pcmu =
    let here : row_at d (keys.Member member) ≡ Some (Member m) =
    under_member d member ∙ ap (option_map Member) found in
    let room = its_room d member m h here in
    let r = room.0 in
    let obeyed = (of_found (obeys d) (keys.Member member) (Member m) (rows_of d) (good_parts d h).obey here).0 in
    let both =
    and_parts (is_in_range (Member m) && has_few_audio d (Member m))
    (all_suit d (Member m) && are_together d (names (Member m))) obeyed in
    let suit = and_parts (all_suit d (Member m)) (are_together d (names (Member m))) both.1 in
    let one = and_parts (suits (Carries m.codec) (row_at d (keys.Room m.room))) true suit.0 in
    let carried : carries r.rate m.codec ≡ true = sym (ap (suits (Carries m.codec)) room.1) ∙ one.0 in
    let at_8000 : r.rate ≡ 8000 = eqb-true r.rate 8000 (sym (ap (carries r.rate) is_pcmu) ∙ carried) in
    ap (λ o. option_map (room_rate d) (option_map (λ (m : MemberRow). m.room) o)) found
    ∙ ap Some (of_row d m.room r h room.1 ∙ at_8000)
