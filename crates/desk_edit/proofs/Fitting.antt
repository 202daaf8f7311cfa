-- An edit fits where the rows that come are sound and those that stay remain so.
use Rattle.std.specs.Prelude.{◌≡◌, ◌≤◌, ◌&&◌, ◌||◌, ◌∷◌}
use Rattle.desk_edit.proofs.Words.{ℕ, nat_lt, Bool, true, false, not, List, [], count_by, Option, Some, None, refl, sym}
use Rattle.desk_edit.proofs.Words.{ap, ◌∙◌, is_some, list_all, and_parts, and_from, or_left, or_right, not-true, Row}
use Rattle.desk_edit.proofs.Words.{RoomRow, Audio, Key, room_audio_limit, kind_of, has_key, same_media, names, is_of}
use Rattle.desk_edit.proofs.Words.{is_in, EditOf, ins, Desk, good, rows_of, row_at, room_of_member, room_of}
use Rattle.desk_edit.proofs.Words.{room_of_found, room_at, same_room, are_together, is_audio_in, is_within_limits}
use Rattle.desk_edit.proofs.Words.{obeys, takes, puts, keeps_names, moves, gains_audio, takes_any, all_come, all_stay}
use Rattle.desk_edit.proofs.Words.{Apt, fits_from, after_fits, is_found, sound_good, has, level}
use Rattle.desk_rows.specs.declared.row.Row.TheVariants as rows
use Rattle.desk_rows.specs.declared.key.Key.TheVariants as keys
use Rattle.desk_rows.specs.declared.key.Kind.TheVariants as kinds
use Rattle.desk_rows.specs.Exchange.{exchanged, fits, after}
use Rattle.desk_rows.specs.inner.judging.Judged.{is_sound as is_sound_row, stays_sound}
use Rattle.desk_edit.proofs.Lists.{at_most, all_both, obeyed}

-- what is to be shown of an edit
pub record Carries (d : Desk) (e : EditOf) : Type 0 where
  pub apt : Apt d e
  pub plain : list_all (λ r. not (is_of kinds.Member r)) (ins e) ≡ true
  pub within : is_within_limits (exchanged d e) ≡ true
  pub come : all_come (is_sound_row (exchanged d e)) e ≡ true
  pub stay : all_stay (stays_sound (moves d e) d e) d e ≡ true

-- an edit of a desk that leads to another
pub record Leads (d : Desk) (e : EditOf) (next : Desk) : Type 0 where
  pub fits : fits d e ≡ true
  pub leads : after d e ≡ next

pub leads : (d : Desk) (e : EditOf) (next : Desk) → good d ≡ true → Carries d e → exchanged d e ≡ next → Leads d e next
leads d e next g c is =
    let fit =
    fits_from d e record { before = g; apt = c.apt; later = sound_good d e g c.apt c.plain c.within c.come c.stay } in
    record { fits = fit; leads = after_fits d e fit ∙ is }

-- ---- a row that stays

-- it is sound where it obeys its rule
pub stays_asked : (moved : Bool) (d : Desk) (e : EditOf) (r : Row) → keeps_names e r ≡ true
    → obeys (exchanged d e) r ≡ true → stays_sound moved d e r ≡ true
unfolding stays_sound
stays_asked moved d e r a b = and_from _ _ a (or_right _ _ b)

untouched : (e : EditOf) (ks : List Key) → list_all (λ k. not (takes e k)) ks ≡ true
    → (list_all (λ k. not (takes e k && not (puts e k))) ks ≡ true) × (takes_any e ks ≡ false)
untouched e ks h = (
  all_both (λ k. not (takes e k)) (λ k. not (takes e k)) (λ k. not (takes e k && not (puts e k)))
      (λ k a b. ap (λ t. not (t && not (puts e k))) (not-true (takes e k) a)) ks h h,
  neither ks h,
) where
  neither : (ks : List Key) → list_all (λ k. not (takes e k)) ks ≡ true → takes_any e ks ≡ false
  neither [] h = refl
  neither (x ∷ xs) h =
      let both = and_parts (not (takes e x)) (list_all (λ k. not (takes e k)) xs) h in
      (λ i. not-true (takes e x) both.0 i || neither xs both.1 i)

-- or where nothing that it names is taken, and no audio comes into it
pub stays_untouched : (d : Desk) (e : EditOf) (r : Row) → list_all (λ k. not (takes e k)) (names r) ≡ true
    → gains_audio d e r ≡ false → stays_sound false d e r ≡ true
unfolding stays_sound
stays_untouched d e r h quiet =
    let both = untouched e (names r) h in and_from _ _ both.0 (or_left _ _ (ap not (λ i. quiet i || both.1 i)))

-- ---- keys that rows name, and what they find

abbrev pub is_base : Key → Bool
is_base k = nat_lt (level (kind_of k)) 3

pub names_base : (x : Row) → list_all is_base (names x) ≡ true
names_base (rows.Room r) = refl
names_base x = refl

-- two desks in which such keys find the same
module _ (d d' : Desk) (ok : Key → Bool) (same : (k : Key) → ok k ≡ true → row_at d' k ≡ row_at d k) where
  pub room_alike : (x : Row) → list_all ok (names x) ≡ true → room_of d' x ≡ room_of d x
  room_alike (rows.Source s) h = ap room_of_member (same (keys.Member s.member) (and_parts _ true h).0)
  room_alike (rows.Slot s) h = ap room_of_member (same (keys.Member s.member) (and_parts _ true h).0)
  room_alike x h = refl

  pub audio_alike : (room : ℕ) (x : Row) → list_all ok (names x) ≡ true → is_audio_in d' room x ≡ is_audio_in d room x
  audio_alike room (rows.Source s) h =
      ap (λ o. same_media s.media Audio && same_room o (Some room)) (room_alike (rows.Source s) h)
  audio_alike room x h = refl

  pub each_alike : (q : Option Row → Bool) (ks : List Key) → list_all ok ks ≡ true
      → list_all (λ k. q (row_at d' k)) ks ≡ list_all (λ k. q (row_at d k)) ks
  each_alike q [] h = refl
  each_alike q (k ∷ ks) h =
      let both = and_parts (ok k) (list_all ok ks) h in (λ i. q (same k both.0 i) && each_alike q ks both.1 i)

  pub named_alike : (ks : List Key) → list_all ok ks ≡ true → list_all (has d') ks ≡ list_all (has d) ks
  named_alike ks h =
      (λ i. list_all (λ k. is_found (has_key k) (rows_of d') i) ks)
      ∙ each_alike is_some ks h
      ∙ sym (λ i. list_all (λ k. is_found (has_key k) (rows_of d) i) ks)

  pub together_alike : ((k : Key) (x : Row) → ok k ≡ true → row_at d k ≡ Some x → list_all ok (names x) ≡ true)
      → (ks : List Key) → list_all ok ks ≡ true → are_together d' ks ≡ are_together d ks
  together_alike closed (x ∷ y ∷ []) h =
      let both = and_parts (ok x) (ok y && true) h in
      (λ i. same_room (at x both.0 i) (at y (and_parts (ok y) true both.1).0 i)) where
        found : (k : Key) (o : Option Row) → ok k ≡ true → row_at d k ≡ o → room_of_found d' o ≡ room_of_found d o
        found k None own e = refl
        found k (Some r) own e = room_alike r (closed k r own e)

        at : (k : Key) → ok k ≡ true → room_at d' k ≡ room_at d k
        at k own = ap (room_of_found d') (same k own) ∙ found k (row_at d k) own refl
  together_alike closed ks h = refl

-- ---- audio

pub good_audio : (d : Desk) → good d ≡ true → (r : RoomRow) → is_in (rows_of d) (rows.Room r) ≡ true
    → count_by (is_audio_in d r.room) d.others ≤ room_audio_limit
good_audio d g r one = at_most _ _ (obeyed d g (rows.Room r) one).1
