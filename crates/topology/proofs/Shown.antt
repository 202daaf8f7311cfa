-- On a good desk what a room shows is a video source of a member in it.
use Rattle.std.proofs.Common.{◌≡◌, ℕ, true, ◌&&◌, nat_eq, [], ◌∷◌, Option, None, Some, refl, sym, ap, subst, ◌∙◌}
use Rattle.std.proofs.Common.{eqb-true}
use Rattle.std.specs.Prelude.{option_map, option_and_then}
use Rattle.std.specs.Option.{option_or}
use Rattle.std.specs.List.{find, list_all}
use Rattle.std.proofs.lemmas.Bool.{and_parts}
use Rattle.desk_rows.specs.declared.row.Row.TheVariants.{Source, Pin, Floor}
use Rattle.desk_rows.specs.declared.row.Source.{Source as SourceRow}
use Rattle.desk_rows.specs.declared.row.Pin.{Pin as PinRow}
use Rattle.desk_rows.specs.declared.row.Floor.{Floor as FloorRow}
use Rattle.desk_rows.specs.declared.row.Media.{Media}
use Rattle.desk_rows.specs.declared.row.Media.TheVariants.{Audio, Video}
use Rattle.desk_rows.specs.declared.key.Key.TheVariants as keys
use Rattle.desk_rows.specs.Row.{names, suits, wants, is_in_range, same_media}
use Rattle.desk_rows.specs.Row.Want.{Sends}
use Rattle.desk_rows.specs.laws.Laws.{good_parts}
use Rattle.desk_rows.specs.Desk.{Desk, good, rows_of, row_at, room_at, are_together, all_suit, has_few_audio, obeys}
use Rattle.desk_rows.specs.Getters.{source_at, pin_at, floor_at}
use Rattle.desk_rows.specs.laws.GetterLaws.{under_source, under_pin, under_floor}
use Rattle.topology.specs.Looking.{pinned, holder, sender_of, room_of_member}
use Rattle.topology.specs.Choice.{sources_of, is_video_of, first_video, shown}
use Rattle.topology.proofs.Finding.{given_by, of_found as of_found_one}
use Rattle.topology.proofs.Rising.{Found, all_found}
use Rattle.topology.proofs.KindRows.{source_ssrc, source_row}
use Rattle.topology.proofs.GoodRows.{sources_rise, of_found}
use Rattle.topology.proofs.RoomsOf.{room_at_source, room_at_member, with_room}

pub is_video : (media : Media) → same_media media Video ≡ true → media ≡ Video
is_video Audio e = absurd (cc)
is_video Video e = refl

-- the source's row, a video source's
pub record IsVideoSource (d : Desk) (source : ℕ) (s : SourceRow) : Type 0 where
  pub found : source_at d source ≡ Some s
  pub sends : s.media ≡ Video

-- so it sends video
pub its_media : (d : Desk) (source : ℕ) (s : SourceRow) → IsVideoSource d source s
    → option_map (λ (s : SourceRow). s.media) (source_at d source) ≡ Some Video
its_media d source s is = ap (option_map (λ (s : SourceRow). s.media)) is.found ∙ ap Some is.sends

-- the source's row, and its member's room
pub record ShownIn (d : Desk) (room source : ℕ) (s : SourceRow) : Type 0 where
  pub is : IsVideoSource d source s
  pub room_is : room_of_member d s.member ≡ Some room

-- so the source is in the room
pub its_room : (d : Desk) (room source : ℕ) (s : SourceRow) → ShownIn d room source s
    → room_at d (keys.Source source) ≡ Some room
its_room d room source s in_room =
    room_at_source d source
    ∙ ap (option_and_then (λ (s : SourceRow). room_of_member d s.member)) in_room.is.found
    ∙ in_room.room_is

-- a source that is wanted to send video, and is in a room
pub suiting : (d : Desk) (source room : ℕ) → suits (Sends Video) (row_at d (keys.Source source)) ≡ true
    → room_at d (keys.Source source) ≡ Some room → (s : SourceRow) × ShownIn d room source s
suiting d source room suit in_room = by (source_at d source) refl (sym (room_at_source d source) ∙ in_room)
  where
    video : (s : SourceRow) → source_at d source ≡ Some s → s.media ≡ Video
    video s found =
        is_video s.media
        (sym (ap (suits (Sends Video)) (under_source d source ∙ ap (option_map Source) found)) ∙ suit)

    by : (o : Option SourceRow) → source_at d source ≡ o
        → option_and_then (λ (s : SourceRow). room_of_member d s.member) o ≡ Some room
        → (s : SourceRow) × ShownIn d room source s
    by None found h = absurd (cc)
    by (Some s) found h = (
      s,
      record {
        is = record { found = found; sends = video s found };
        room_is = h;
      },
    )

-- ---- pins

by_pin : (d : Desk) (room source : ℕ) → good d ≡ true → pinned d room ≡ Some source
    → (s : SourceRow) × ShownIn d room source s
by_pin d room source h e =
    let pin = given_by (λ (p : PinRow). p.source) (pin_at d room) source e in
    let p = pin.0 in
    let row : row_at d (keys.Pin room) ≡ Some (Pin p) = under_pin d room ∙ ap (option_map Pin) pin.1 in
    let told = of_found (obeys d) (keys.Pin room) (Pin p) (rows_of d) (good_parts d h).obey row in
    let both =
    and_parts (is_in_range (Pin p) && has_few_audio d (Pin p)) (all_suit d (Pin p) && are_together d (names (Pin p)))
    told.0 in
    let parts = and_parts (all_suit d (Pin p)) (are_together d (names (Pin p))) both.1 in
    let suit =
    and_parts (suits (Sends Video) (row_at d (keys.Room p.room)))
    (list_all (λ key. suits (wants (Pin p)) (row_at d key)) (keys.Source p.source ∷ [])) parts.0 in
    let video = and_parts (suits (Sends Video) (row_at d (keys.Source p.source))) true suit.1 in
    let in_room : room_at d (keys.Source p.source) ≡ Some room =
    with_room d p.room (room_at d (keys.Source p.source)) parts.1 ∙ ap Some (eqb-true p.room room told.1) in
    suiting d source room (subst (λ (n : ℕ). suits (Sends Video) (row_at d (keys.Source n)) ≡ true) pin.2 video.0)
    (subst (λ (n : ℕ). room_at d (keys.Source n) ≡ Some room) pin.2 in_room)

-- ---- floors

-- a floor's holder is in the room
holder_in : (d : Desk) (room member : ℕ) → good d ≡ true → holder d room ≡ Some member
    → room_of_member d member ≡ Some room
holder_in d room member h e =
    let floor = given_by (λ (f : FloorRow). f.member) (floor_at d room) member e in
    let f = floor.0 in
    let row : row_at d (keys.Floor room) ≡ Some (Floor f) = under_floor d room ∙ ap (option_map Floor) floor.1 in
    let told = of_found (obeys d) (keys.Floor room) (Floor f) (rows_of d) (good_parts d h).obey row in
    let both =
    and_parts (is_in_range (Floor f) && has_few_audio d (Floor f))
    (all_suit d (Floor f) && are_together d (names (Floor f))) told.0 in
    let parts = and_parts (all_suit d (Floor f)) (are_together d (names (Floor f))) both.1 in
    subst (λ (n : ℕ). room_of_member d n ≡ Some room) floor.2
    (sym (room_at_member d f.member)
    ∙ with_room d f.room (room_at d (keys.Member f.member)) parts.1
    ∙ ap Some (eqb-true f.room room told.1))

-- the first video source of a member is one
first_video_is : (d : Desk) (member source : ℕ) → good d ≡ true → first_video d member ≡ Some source
    → (s : SourceRow) × IsVideoSource d source s × (s.member ≡ member)
first_video_is d member source h e = by (find (is_video_of member) (sources_of d)) refl e
  where
    by : (o : Option SourceRow) → find (is_video_of member) (sources_of d) ≡ o
        → option_map (λ (s : SourceRow). s.ssrc) o ≡ Some source
        → (s : SourceRow) × IsVideoSource d source s × (s.member ≡ member)
    by None found e = absurd (cc)
    by (Some s) found e =
        let told =
        of_found_one (Found source_ssrc (sources_of d)) (is_video_of member) s (sources_of d)
        (all_found source_ssrc (sources_of d) (sources_rise d h)) found in
        let is : s.ssrc ≡ source = cc in
        let both = and_parts (nat_eq s.member member) (same_media s.media Video) told.1 in (
          s,
          record {
            found = subst (λ (n : ℕ). source_at d n ≡ Some s) is (source_row d s.ssrc ∙ told.0);
            sends = is_video s.media both.1;
          },
          eqb-true s.member member both.0,
        )

by_floor : (d : Desk) (room source : ℕ) → good d ≡ true → option_and_then (first_video d) (holder d room) ≡ Some source
    → (s : SourceRow) × ShownIn d room source s
by_floor d room source h e = by (holder d room) refl e
  where
    by : (o : Option ℕ) → holder d room ≡ o → option_and_then (first_video d) o ≡ Some source
        → (s : SourceRow) × ShownIn d room source s
    by None held e = absurd (cc)
    by (Some member) held e =
        let first = first_video_is d member source h e in
        (first.0, record { is = first.1; room_is = ap (room_of_member d) first.2 ∙ holder_in d room member h held })

-- ---- both

pub shown_in : (d : Desk) (room source : ℕ) → good d ≡ true → shown d room ≡ Some source
    → (s : SourceRow) × ShownIn d room source s
shown_in d room source h e = by (pinned d room) refl e
  where
    by : (o : Option ℕ) → pinned d room ≡ o
        → option_or o (option_and_then (first_video d) (holder d room)) ≡ Some source
        → (s : SourceRow) × ShownIn d room source s
    by None none e = by_floor d room source h e
    by (Some n) pin e = by_pin d room source h (pin ∙ e)

-- so its sender is in the room
pub shown_sender : (d : Desk) (room source member : ℕ) → good d ≡ true → shown d room ≡ Some source
    → sender_of d source ≡ Some member → room_of_member d member ≡ Some room
shown_sender d room source member h e sent =
    let by = shown_in d room source h e in
    let same : Some by.0.member ≡ Some member =
    sym (ap (option_map (λ (s : SourceRow). s.member)) by.1.is.found) ∙ sent in
    let is : by.0.member ≡ member = cc in
    sym (ap (room_of_member d) is) ∙ by.1.room_is
