-- A row is put, in place of the one of its key if there is one: the desk stays good, where nothing stands against the
-- row.
use Rattle.std.specs.Prelude.{◌≡◌, ◌+◌, ◌≤◌, ◌&&◌, ◌||◌, ◌∷◌}
use Rattle.desk_edit.proofs.Words.{ℕ, nat_le, nat_eq, Bool, true, false, not, cond, List, [], map, count_by, Option}
use Rattle.desk_edit.proofs.Words.{Some, None, inl, inr, refl, sym, ap, ◌∙◌, arith, eqb-true, eq-eqb, leb-false}
use Rattle.desk_edit.proofs.Words.{list_any, list_all, not-not, and_parts, and_from, cases_Bool, not-true}
use Rattle.desk_edit.proofs.Words.{false_from_ne_true, Row, RoomRow, Audio, Key, Kind, Claim, room_audio_limit, rank}
use Rattle.desk_edit.proofs.Words.{kind_of, key_of, has_key, same_key, same_media, names, wants, suits, makes}
use Rattle.desk_edit.proofs.Words.{other_claims, is_of, limits, is_in, EditOf, ins, Desk, good, rows_of, row_at}
use Rattle.desk_edit.proofs.Words.{count_of, room_of_member, room_of, same_room, is_audio_in, has_few_audio}
use Rattle.desk_edit.proofs.Words.{is_named_there, is_bridges, is_made_once, is_alone, IsKeyed, stay_rows, go_rows}
use Rattle.desk_edit.proofs.Words.{come_rows, go_count, come_count, takes, moves, key_itself, its_key, at_each}
use Rattle.desk_edit.proofs.Words.{from_each, count_next, Apt, good_parts, good_order, true_false, no_count, some_count}
use Rattle.desk_edit.proofs.Words.{before_count, after_count, found_there, keyed_good, was_there, found_still}
use Rattle.desk_edit.proofs.Words.{bridge_same, own_claims, sound_from, plain_later, has, is_claimed, is_replaced}
use Rattle.desk_edit.proofs.Words.{table_of, is_full, found_list}
use Rattle.desk_rows.specs.declared.row.Row.TheVariants as rows
use Rattle.desk_rows.specs.declared.key.Key.TheVariants as keys
use Rattle.desk_rows.specs.declared.key.Kind.TheVariants as kinds
use Rattle.desk_edit.specs.declared.refusal.Reason.TheVariants as reasons
use Rattle.desk_rows.specs.Exchange.{exchanged}
use Rattle.desk_rows.specs.inner.judging.Judged.{is_sound as is_sound_row, stays_sound}
use Rattle.desk_edit.proofs.Lists.{at_most, most, one_yes, one_no, all_both, any_none, count_alike, count_wider}
use Rattle.desk_edit.proofs.Lists.{fewer_pass, filter_found, count_other, obeyed}
use Rattle.desk_edit.proofs.Cases.{NoneHolds}
use Rattle.desk_edit.proofs.Asked.{Free}
use Rattle.desk_edit.proofs.Fitting.{Carries, stays_asked, stays_untouched, is_base, names_base, audio_alike}
use Rattle.desk_edit.proofs.Fitting.{each_alike, named_alike, together_alike, good_audio}

-- a room with an audio source is there
room_with_audio : (d : Desk) → good d ≡ true → (room : ℕ) (x : Row) → is_audio_in d room x ≡ true
    → has d (keys.Room room) ≡ true
room_with_audio d g room (rows.Source s) h =
    by (row_at d (keys.Member s.member)) refl
    (and_parts (same_media s.media Audio) (same_room (room_of d (rows.Source s)) (Some room)) h).1 where
      by : (o : Option Row) → row_at d (keys.Member s.member) ≡ o → same_room (room_of_member o) (Some room) ≡ true
          → has d (keys.Room room) ≡ true
      by (Some (rows.Member m)) at e =
          let there = found_there (has_key (keys.Member s.member)) (rows_of d) (rows.Member m) at in
          let named = at_each (is_named_there d) (rows_of d) (rows.Member m) (good_parts d g).named there.0 in
          ap (λ n. has d (keys.Room n)) (sym (eqb-true m.room room e))
          ∙ (and_parts (has d (keys.Room m.room)) true named).0
      by o at e = cc
room_with_audio d g room x h = cc

-- a row that rows name is not replaced
replaced_is : (r : Row) → is_replaced r ≡ not (is_base (key_of r))
replaced_is (rows.Room r) = refl
replaced_is r = refl

-- an edit by which this row comes, and none goes but the one of its key
pub record Puts (d : Desk) (e : EditOf) (r : Row) : Type 0 where
  pub apt : Apt d e
  pub comes : come_rows e ≡ r ∷ []
  pub goes : go_rows e ≡ found_list (row_at d (key_of r))
  pub plain : list_all (λ x. not (is_of kinds.Member x)) (ins e) ≡ true
  pub still : moves d e ≡ false

module _ (d : Desk) (e : EditOf) (r : Row) (g : good d ≡ true) (p : Puts d e r) (f : Free d r) where
  abbrev d' : Desk
  d' = exchanged d e

  abbrev old : List Row
  old = found_list (row_at d (key_of r))

  -- ---- counts

  counts : (q : Row → Bool)
      → (count_by q (rows_of d') + count_by q old ≡ count_by q (rows_of d) + cond (q r) 1 0)
      × (count_by q old ≤ count_by q (rows_of d))
  counts q =
      let before = before_count q d e (good_order d g) p.apt in
      let later = after_count q d e p.apt in
      let gone : go_count q e ≡ count_by q old = ap (count_by q) p.goes in
      let come : come_count q e ≡ count_by q (r ∷ []) = ap (count_by q) p.comes in
      (omega (arith, before, later, gone, come, count_next q r []), omega (arith, before, gone))

  -- all rows of the key go
  own_gone : count_by (has_key (key_of r)) old ≡ count_by (has_key (key_of r)) (rows_of d)
  own_gone =
      let own = has_key (key_of r) in
      ap (count_by own) (sym (filter_found own (rows_of d) ((keyed_good d g).once (key_of r))))
      ∙ count_wider own own (rows_of d) (λ x h. h)

  own_once : count_by (has_key (key_of r)) (rows_of d') ≡ 1
  own_once =
      let all = counts (has_key (key_of r)) in
      omega (arith, all.0, own_gone, one_yes (has_key (key_of r) r) (key_itself (key_of r)))

  keyed : IsKeyed d'
  keyed = record { once = once; plain = plain_later d e g p.apt ∙ p.plain } where
    once : (k : Key) → count_by (has_key k) (rows_of d') ≤ 1
    once k = elim (cases_Bool (has_key k r)) [
      | inl own ↦
          let one : count_by (has_key k) (rows_of d') ≡ 1 =
          ap (λ q. count_by (has_key q) (rows_of d')) (sym (its_key k r own)) ∙ own_once in
          omega (arith, one)
      | inr other ↦
          let few = (keyed_good d g).once k in
          let all = counts (has_key k) in omega (arith, few, all.0, one_no (has_key k r) other)
    ]

  alone : is_alone d' r ≡ true
  alone = and_from _ _ (and_from _ _ (eq-eqb _ _ own_once) refl)
      (all_both (λ c. makes c r) (λ c. not (is_claimed d c) && not (is_bridges d c)) (is_made_once d') once
      (other_claims r) (and_parts _ _ (own_claims r)).1 f.claims) where
        once : (c : Claim) → makes c r ≡ true → (not (is_claimed d c) && not (is_bridges d c)) ≡ true
            → is_made_once d' c ≡ true
        once c own h =
            let both = and_parts (not (is_claimed d c)) (not (is_bridges d c)) h in
            let none = no_count (makes c) (rows_of d) (not-true (is_claimed d c) both.0) in
            let all = counts (makes c) in
            and_from _ _ (eq-eqb _ _ (omega (arith, all.0, all.1, none, one_yes (makes c r) own)))
            (ap not (bridge_same d e c) ∙ both.1)

  -- ---- limits

  within : (l : Kind × ℕ) → is_full d r l ≡ false → nat_le (count_of l.0 d) l.1 ≡ true → count_of l.0 d' ≤ l.1
  within l free few = let all = counts (is_of l.0) in let most = at_most _ _ few in elim (cases_Bool (is_of l.0 r)) [
    | inr other ↦ omega (arith, all.0, most, one_no (is_of l.0 r) other)
    | inl own ↦ elim (cases_Bool (has d (key_of r))) [
      | inl there ↦
          let some = some_count (has_key (key_of r)) (rows_of d) there in
          let kind =
          fewer_pass (has_key (key_of r)) (is_of l.0) old
          (λ x its. ap (λ k. nat_eq (rank (kind_of k)) (rank l.0)) (its_key (key_of r) x its) ∙ own) in
          omega (arith, all.0, most, some, kind, own_gone, one_yes (is_of l.0 r) own)
      | inr new ↦
          let less =
          leb-false l.1 (count_of l.0 d) (sym (λ i. own i && (not (new i) && nat_le l.1 (count_of l.0 d))) ∙ free) in
          omega (arith, all.0, less, one_yes (is_of l.0 r) own)
    ]
  ]

  all_within : (ls : List (Kind × ℕ)) → NoneHolds (map (λ l. (is_full d r l, reasons.Full (table_of l.0) l.1)) ls)
      → list_all (λ l. nat_le (count_of l.0 d) l.1) ls ≡ true → list_all (λ l. nat_le (count_of l.0 d') l.1) ls ≡ true
  all_within [] free few = refl
  all_within (l ∷ ls) free few =
      let both = and_parts (nat_le (count_of l.0 d) l.1) (list_all (λ l. nat_le (count_of l.0 d) l.1) ls) few in
      and_from _ _ (most _ _ (within l free.0 both.0)) (all_within ls free.1 both.1)

  -- ---- what was found is found, under other keys than the row's

  abbrev other : Key → Bool
  other k = not (has_key k r)

  untaken : (k : Key) → other k ≡ true → takes e k ≡ false
  untaken k h = ap (list_any (has_key k)) p.goes ∙ none (row_at d (key_of r)) refl where
    none : (o : Option Row) → row_at d (key_of r) ≡ o → list_any (has_key k) (found_list o) ≡ false
    none None at = refl
    none (Some x) at =
        ap (λ q. same_key q k || false) (its_key (key_of r) x (found_there (has_key (key_of r)) (rows_of d) x at).1)
        ∙ ap (λ b. b || false) (not-true (has_key k r) h)

  same : (k : Key) → other k ≡ true → row_at d' k ≡ row_at d k
  same k h =
      found_still d e g p.apt keyed k
      (ap (list_any (has_key k)) p.comes ∙ ap (λ b. b || false) (not-true (has_key k r) h)) (untaken k h)

  -- a key that rows name and that is there is another
  base_other : (k : Key) → is_base k ≡ true → has d k ≡ true → other k ≡ true
  base_other k base there = elim (cases_Bool (has_key k r)) [
    | inr off ↦ ap not off
    | inl own ↦
        let is = sym (its_key k r own) in
        let kept = ap not (replaced_is r) ∙ not-not (is_base (key_of r)) ∙ ap is_base (sym is) ∙ base in
        absurd (true_false (sym (and_from _ _ kept (ap (has d) (sym is) ∙ there)) ∙ f.there))
  ]

  others_named : (x : Row) → list_all (has d) (names x) ≡ true → list_all other (names x) ≡ true
  others_named x there = all_both is_base (has d) other base_other (names x) (names_base x) there

  others_in : (x : Row) → is_in (rows_of d) x ≡ true → list_all other (names x) ≡ true
  others_in x one = others_named x (at_each (is_named_there d) (rows_of d) x (good_parts d g).named one)

  -- ---- audio

  audio_later : (room : ℕ)
      → count_by (is_audio_in d' room) d'.others
      ≤ count_by (is_audio_in d room) d.others + cond (is_audio_in d room r) 1 0
  audio_later room =
      let all = counts (is_audio_in d' room) in
      let was =
      count_alike (is_audio_in d' room) (is_audio_in d room) (rows_of d)
      (λ x one. audio_alike d d' other same room x (others_in x one)) in
      let own : ◌≡◌ {A = ℕ} (cond (is_audio_in d' room r) 1 0) (cond (is_audio_in d room r) 1 0) =
      ap (λ b. cond b 1 0) (audio_alike d d' other same room r (others_named r f.named)) in
      omega (
        arith,
        all.0,
        was,
        own,
        count_other d (is_audio_in d room) (λ m. refl),
        count_other d' (is_audio_in d' room) (λ m. refl),
      )

  few_audio : (room : RoomRow) → is_in (rows_of d) (rows.Room room) ≡ true
      → count_by (is_audio_in d' room.room) d'.others ≤ room_audio_limit
  few_audio room one =
      let less = f.audio room.room in
      let few = good_audio d g room one in
      let later = audio_later room.room in
      grind (arith, less, few, later)

  -- a room that comes has no audio
  own_audio : (x : Row) → r ≡ x → has_few_audio d' x ≡ true
  own_audio (rows.Room room) is =
      let absent : has d (keys.Room room.room) ≡ false =
      ap (λ x. not (is_replaced x) && has d (key_of x)) (sym is) ∙ f.there in
      let none =
      no_count (is_audio_in d room.room) d.others (any_none (is_audio_in d room.room) d.others
      (λ x one. false_from_ne_true _ (λ h. true_false (sym (room_with_audio d g room.room x h) ∙ absent)))) in
      most _ _
      (omega (arith, audio_later room.room, none, one_no (is_audio_in d room.room r) (ap (is_audio_in d room.room) is)))
  own_audio x is = refl

  -- ---- soundness

  stays : (x : Row) → is_in (rows_of d) x ≡ true → stays_sound false d e x ≡ true
  stays x one =
      by x one (all_both other other (λ k. not (takes e k)) (λ k h h'. ap not (untaken k h)) (names x) (others_in x one)
      (others_in x one)) where
        by : (x : Row) → is_in (rows_of d) x ≡ true → list_all (λ k. not (takes e k)) (names x) ≡ true
            → stays_sound false d e x ≡ true
        by (rows.Room room) one h =
            stays_asked false d e (rows.Room room) refl
            (and_from _ _ (and_from _ _ (obeyed d g (rows.Room room) one).0 (most _ _ (few_audio room one))) refl)
        by x one h = stays_untouched d e x h refl

  comes_sound : is_sound_row d' r ≡ true
  comes_sound =
      let own = others_named r f.named in
      sound_from d' r (named_alike d d' other same (names r) own ∙ f.named) alone
      (and_from _ _ (and_from _ _ f.range (own_audio r refl))
      (and_from _ _ (each_alike d d' other same (suits (wants r)) (names r) own ∙ f.suits)
      (together_alike d d' other same (λ k x h at. others_in x (found_there (has_key k) (rows_of d) x at).0) (names r)
      own
      ∙ f.together)))

  pub put_carries : Carries d e
  put_carries = record {
    apt = p.apt;
    plain = p.plain;
    within = all_within limits f.full (good_parts d g).within;
    come = ap (list_all (is_sound_row d')) p.comes ∙ and_from _ _ comes_sound refl;
    stay =
        ap (λ b. list_all (stays_sound b d e) (stay_rows d e)) p.still
        ∙ from_each (stays_sound false d e) (stay_rows d e) (λ x one. stays x (was_there d e g p.apt x one));
  }
