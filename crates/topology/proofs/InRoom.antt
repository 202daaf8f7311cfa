-- On a good desk what a slot chose is a video source in its room, heard, and of another member.
use Rattle.std.proofs.Common.{◌≡◌, ℕ, Bool, true, false, cond, not, ◌&&◌, ◌||◌, nat_eq, [], ◌∷◌, Option, None, Some}
use Rattle.std.proofs.Common.{refl, sym, ap, subst, ◌∙◌, eqb-true}
use Rattle.std.specs.Prelude.{option_map, option_and_then}
use Rattle.std.specs.Option.{option_or}
use Rattle.std.specs.List.{list_all}
use Rattle.std.proofs.lemmas.Bool.{and_parts, or_parts}
use Rattle.std.proofs.lemmas.Option.{option_and_then_some, same_Some}
use Rattle.desk_rows.specs.declared.row.Row.{Row}
use Rattle.desk_rows.specs.declared.row.Row.TheVariants.{Sub}
use Rattle.desk_rows.specs.declared.row.Source.{Source as SourceRow}
use Rattle.desk_rows.specs.declared.row.Slot.{Slot as SlotRow}
use Rattle.desk_rows.specs.declared.row.Sub.{Sub as SubRow}
use Rattle.desk_rows.specs.declared.row.Media.TheVariants.{Video}
use Rattle.desk_rows.specs.declared.key.Key.TheVariants as keys
use Rattle.desk_rows.specs.Row.{names, suits, wants, is_in_range}
use Rattle.desk_rows.specs.Row.Want.{Sends}
use Rattle.desk_rows.specs.laws.Equal.{number_itself}
use Rattle.desk_rows.specs.laws.Laws.{good_parts}
use Rattle.desk_rows.specs.laws.NamingLaws.{its_sub}
use Rattle.desk_rows.specs.Desk.{Desk, good, rows_of, row_at, room_at, same_room, are_together, all_suit, has_few_audio}
use Rattle.desk_rows.specs.Desk.{obeys}
use Rattle.desk_rows.specs.Getters.{sub_in, source_at, slot_at, sub_at}
use Rattle.desk_rows.specs.laws.GetterLaws.{under_sub}
use Rattle.topology.specs.Looking.{subscribed, is_muted, is_this, sender_of, room_of_member}
use Rattle.topology.specs.Looking.{room_of_source}
use Rattle.topology.specs.Choice.{shown, shown_on, wanted, are_in_one_room, is_barred, unless_barred, chosen, choice}
use Rattle.topology.proofs.Finding.{given_by, found_key}
use Rattle.topology.proofs.KindRows.{slot_ssrc, slot_row}
use Rattle.topology.proofs.GoodRows.{of_found}
use Rattle.topology.proofs.RoomsOf.{room_at_source, room_at_slot}
use Rattle.topology.proofs.Shown.{its_media, its_room, suiting, shown_in}

-- a slot that chose: it would get the source, which isn't barred
record Chose (d : Desk) (k source : ℕ) (slot : SlotRow) : Type 0 where
  found : slot_at d k ≡ Some slot
  would : wanted d slot ≡ Some source
  heard : is_muted d source ≡ false
  others : is_this slot.member (sender_of d source) ≡ false

who_chose : (d : Desk) (k source : ℕ) → choice d k ≡ Some source → (slot : SlotRow) × Chose d k source slot
who_chose d k source h =
    option_and_then_some (chosen d) (slot_at d k) source h (λ slot found chose.
    option_and_then_some (unless_barred d slot) (wanted d slot) source chose (λ n would free.
    let is = not_barred (is_barred d slot n) n free in
    let own = is_this slot.member (sender_of d source) in
    let away = not (are_in_one_room d slot source) in
    let all = or_parts (is_muted d source) (own || away) (sym (ap (is_barred d slot) is.1) ∙ is.0) in (
      slot,
      record { found = found; would = would ∙ ap Some is.1; heard = all.0; others = (or_parts own away all.1).0 },
    )))
  where
    not_barred : (b : Bool) (n : ℕ) → cond b None (Some n) ≡ Some source → (b ≡ false) × (n ≡ source)
    not_barred true n e = absurd (cc)
    not_barred false n e = (refl, same_Some n source e)

pub is_heard : (d : Desk) (k source : ℕ) → choice d k ≡ Some source → is_muted d source ≡ false
is_heard d k source h = (who_chose d k source h).1.heard

pub of_others : (d : Desk) (k source : ℕ) (slot : SlotRow) → choice d k ≡ Some source → slot_at d k ≡ Some slot
    → is_this slot.member (sender_of d source) ≡ false
of_others d k source slot h found =
    let chose = who_chose d k source h in
    let both : Some chose.0 ≡ Some slot = sym chose.1.found ∙ found in
    let same : chose.0 ≡ slot = cc in
    subst (λ (s : SlotRow). is_this s.member (sender_of d source) ≡ false) same chose.1.others

-- ---- on a good desk

-- the source and the slot are in one room, and the source sends video
record Meets (d : Desk) (k source : ℕ) : Type 0 where
  video : option_map (λ (s : SourceRow). s.media) (source_at d source) ≡ Some Video
  together : same_room (room_at d (keys.Source source)) (room_at d (keys.Slot k)) ≡ true

sub_found : (o : Option Row) (source : ℕ) → option_map (λ s. s.source) (option_and_then sub_in o) ≡ Some source
    → (s : SubRow) × (o ≡ Some (Sub s)) × (s.source ≡ source)
sub_found None source h = absurd (cc)
sub_found (Some r) source h = by (sub_in r) refl h
  where
    by : (o : Option SubRow) → sub_in r ≡ o → option_map (λ s. s.source) o ≡ Some source
        → (s : SubRow) × (Some r ≡ Some (Sub s)) × (s.source ≡ source)
    by None e h = absurd (cc)
    by (Some s) e h = (s, ap Some (its_sub r s e), same_Some s.source source h)

-- both are in a room
in_one : (a b : Option ℕ) → same_room a b ≡ true → (room : ℕ) × (a ≡ Some room)
in_one None b h = absurd (cc)
in_one (Some a) b h = (a, refl)

by_sub : (d : Desk) (k source : ℕ) → good d ≡ true → subscribed d k ≡ Some source → Meets d k source
by_sub d k source h e =
    let sub = given_by (λ (s : SubRow). s.source) (sub_at d k) source e in
    let s = sub.0 in
    let row : row_at d (keys.Sub k) ≡ Some (Sub s) = under_sub d k ∙ ap (option_map Sub) sub.1 in
    let told = of_found (obeys d) (keys.Sub k) (Sub s) (rows_of d) (good_parts d h).obey row in
    let both =
    and_parts (is_in_range (Sub s) && has_few_audio d (Sub s)) (all_suit d (Sub s) && are_together d (names (Sub s)))
    told.0 in
    let parts = and_parts (all_suit d (Sub s)) (are_together d (names (Sub s))) both.1 in
    let suit =
    and_parts (suits (Sends Video) (row_at d (keys.Source s.source)))
    (list_all (λ key. suits (wants (Sub s)) (row_at d key)) (keys.Slot s.out_ssrc ∷ [])) parts.0 in
    let one : same_room (room_at d (keys.Source source)) (room_at d (keys.Slot k)) ≡ true =
    subst (λ (n : ℕ). same_room (room_at d (keys.Source source)) (room_at d (keys.Slot n)) ≡ true)
    (eqb-true s.out_ssrc k told.1)
    (subst (λ (n : ℕ). same_room (room_at d (keys.Source n)) (room_at d (keys.Slot s.out_ssrc)) ≡ true) sub.2
    parts.1) in
    let room = in_one (room_at d (keys.Source source)) (room_at d (keys.Slot k)) one in
    let is =
    suiting d source room.0 (subst (λ (n : ℕ). suits (Sends Video) (row_at d (keys.Source n)) ≡ true) sub.2 suit.0)
    room.1 in
    record { video = its_media d source is.0 is.1.is; together = one }

by_room : (d : Desk) (k source room : ℕ) (slot : SlotRow) → good d ≡ true → slot_at d k ≡ Some slot
    → room_of_member d slot.member ≡ Some room → shown d room ≡ Some source → Meets d k source
by_room d k source room slot h found in_room e =
    let is = shown_in d room source h e in
    let here : room_at d (keys.Source source) ≡ Some room = its_room d room source is.0 is.1 in
    let there : room_at d (keys.Slot k) ≡ Some room =
    room_at_slot d k ∙ ap (option_and_then (λ (s : SlotRow). room_of_member d s.member)) found ∙ in_room in
    record {
      video = its_media d source is.0 is.1.is;
      together = (λ i. same_room (here i) (there i)) ∙ number_itself room;
    }

-- a slot is in one room with what it subscribes to
pub sub_in_one_room : (d : Desk) (source : ℕ) (slot : SlotRow) → good d ≡ true → slot_at d slot.out_ssrc ≡ Some slot
    → subscribed d slot.out_ssrc ≡ Some source → are_in_one_room d slot source ≡ true
sub_in_one_room d source slot h found sub =
    let k = slot.out_ssrc in
    let there = room_at_slot d k ∙ ap (option_and_then (λ (s : SlotRow). room_of_member d s.member)) found in
    sym (λ i. same_room ((room_at_source d source ∙ its_sender (source_at d source)) i) (there i))
    ∙ (by_sub d k source h sub).together
  where
    its_sender : (o : Option SourceRow)
        → option_and_then (λ (s : SourceRow). room_of_member d s.member) o
        ≡ option_and_then (room_of_member d) (option_map (λ s. s.member) o)
    its_sender None = refl
    its_sender (Some s) = refl

-- and with what it is shown
pub shown_in_one_room : (d : Desk) (source : ℕ) (slot : SlotRow) → good d ≡ true → shown_on d slot ≡ Some source
    → are_in_one_room d slot source ≡ true
shown_in_one_room d source slot h e = at_index (nat_eq slot.index 0) e
  where
    in_its_room : (o : Option ℕ) → room_of_member d slot.member ≡ o → option_and_then (shown d) o ≡ Some source
        → are_in_one_room d slot source ≡ true
    in_its_room None room e = absurd (cc)
    in_its_room (Some n) room e =
        let is = shown_in d n source h e in
        let here : room_of_source d source ≡ Some n =
        ap (λ o. option_and_then (room_of_member d) (option_map (λ s. s.member) o)) is.1.is.found ∙ is.1.room_is in
        (λ i. same_room (here i) (room i)) ∙ number_itself n

    at_index : (b : Bool) → cond b (option_and_then (shown d) (room_of_member d slot.member)) None ≡ Some source
        → are_in_one_room d slot source ≡ true
    at_index true e = in_its_room (room_of_member d slot.member) refl e
    at_index false e = absurd (cc)

-- by the rule that a slot wants by
meets : (d : Desk) (k source : ℕ) → good d ≡ true → choice d k ≡ Some source → Meets d k source
meets d k source h chosen = by (subscribed d slot.out_ssrc) refl chose.1.would
  where
    chose : (slot : SlotRow) × Chose d k source slot
    chose = who_chose d k source chosen

    slot : SlotRow
    slot = chose.0

    ours : slot.out_ssrc ≡ k
    ours = found_key slot_ssrc k slot _ (sym (slot_row d k) ∙ chose.1.found)

    in_its_room : (o : Option ℕ) → room_of_member d slot.member ≡ o → option_and_then (shown d) o ≡ Some source
        → Meets d k source
    in_its_room None room e = absurd (cc)
    in_its_room (Some n) room e = by_room d k source n slot h chose.1.found room e

    at_index : (b : Bool) → cond b (option_and_then (shown d) (room_of_member d slot.member)) None ≡ Some source
        → Meets d k source
    at_index true e = in_its_room (room_of_member d slot.member) refl e
    at_index false e = absurd (cc)

    by : (o : Option ℕ) → subscribed d slot.out_ssrc ≡ o → option_or o (shown_on d slot) ≡ Some source
        → Meets d k source
    by (Some n) sub e = by_sub d k source h (sym (ap (subscribed d) ours) ∙ sub ∙ e)
    by None sub e = at_index (nat_eq slot.index 0) e

pub in_room : (d : Desk) (k source : ℕ) → good d ≡ true → choice d k ≡ Some source
    → same_room (room_at d (keys.Source source)) (room_at d (keys.Slot k)) ≡ true
in_room d k source h chosen = (meets d k source h chosen).together

pub sends_video : (d : Desk) (k source : ℕ) → good d ≡ true → choice d k ≡ Some source
    → option_map (λ (s : SourceRow). s.media) (source_at d source) ≡ Some Video
sends_video d k source h chosen = (meets d k source h chosen).video
