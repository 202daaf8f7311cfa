-- A member is put into another room, and what would cross rooms is taken: the desk stays good.
use Rattle.std.specs.Prelude.{◌≡◌, ◌+◌, ◌≤◌, ◌&&◌, ◌||◌, ◌∷◌, ◌++◌, ◌⊎◌}
use Rattle.desk_edit.proofs.Words.{ℕ, nat_eq, Bool, true, false, not, cond, List, [], map, filter, count_by, find}
use Rattle.desk_edit.proofs.Words.{Option, Some, None, inl, inr, refl, sym, ap, ◌∙◌, arith, eqb-true, eq-eqb, ltb-false}
use Rattle.desk_edit.proofs.Words.{is_some, list_any, list_all, not-not, and_parts, and_from, or_left, cases_Bool}
use Rattle.desk_edit.proofs.Words.{not-false, false_from_ne_true, filter-append, list_any-append, Row, RoomRow}
use Rattle.desk_edit.proofs.Words.{MemberRow, Media, Audio, Key, Claim, Placed, room_audio_limit, key_of, has_key}
use Rattle.desk_edit.proofs.Words.{same_media, names, Want, wants, suits, makes, claims_of, is_of, is_in, EditOf, Desk}
use Rattle.desk_edit.proofs.Words.{good, rows_of, row_at, room_of_member, room_of, same_room, are_together, all_suit}
use Rattle.desk_edit.proofs.Words.{is_audio_in, has_few_audio, is_bridges, is_made_once, is_alone, is_within_limits}
use Rattle.desk_edit.proofs.Words.{obeys, stay_rows, come_rows, takes, puts, keeps_names, moves, its_key, at_each}
use Rattle.desk_edit.proofs.Words.{from_each, filter_all, is_in-filter, Apt, good_parts, any_counts, is_in-append}
use Rattle.desk_edit.proofs.Words.{true_false, two_alls, is_found, found_one, found_there, keyed_good, was_there}
use Rattle.desk_edit.proofs.Words.{plain_others, own_claims, sound_from, into_room, with_member_in, with_moved, has}
use Rattle.desk_edit.proofs.Words.{first_case, is_audio_of, move_cases, placed_from, placed_in, moves_member}
use Rattle.desk_edit.proofs.Words.{row_into_room}
use Rattle.desk_rows.specs.Row.Want.{Anything, Sends, Carries}
use Rattle.desk_rows.specs.Row.{carries}
use Rattle.desk_rows.specs.Desk.{rate_of_room}
use Rattle.desk_rows.specs.declared.row.Codec.{Codec}
use Rattle.desk_edit.specs.Refusals.{rate_at, rate_of_member, same_rate}
use Rattle.desk_rows.specs.declared.row.Row.TheVariants as rows
use Rattle.desk_rows.specs.declared.key.Key.TheVariants as keys
use Rattle.desk_rows.specs.declared.claim.Claim.TheVariants as claims
use Rattle.desk_rows.specs.Exchange.{exchanged}
use Rattle.desk_rows.specs.inner.judging.Judged.{is_sound as is_sound_row, stays_sound}
use Rattle.std.proofs.lemmas.List.Folds.{list_all-map}
use Rattle.std.proofs.Math.Bool.{and-not_self}
use Rattle.std.specs.Option.{option_and_then}
use Rattle.desk_edit.proofs.Lists.{most, all_both, any_none, in_filter, fewer_pass, count_filter, two_pass, obeyed}
use Rattle.desk_edit.proofs.Lists.{found_filter}
use Rattle.desk_edit.proofs.Moves.{into_keeps, moved_keeps, moved_in, rows_moved, found_moved, count_moved}
use Rattle.desk_edit.proofs.Cases.{none_holds}
use Rattle.desk_edit.proofs.Placed.{picked, back_rise, put_back_all, can_put_all}
use Rattle.desk_edit.proofs.Fitting.{Leads, leads, stays_asked, is_base, names_base, each_alike, together_alike}
use Rattle.desk_edit.proofs.Fitting.{good_audio}
use Rattle.desk_edit.proofs.Taking.{fewer_still, sweep_apt, sweep_is, sweep_stays}

-- ---- rows that are found, in another room

still_there : (n room : ℕ) (o : Option Row) → is_some (row_into_room n room o) ≡ is_some o
still_there n room (Some (rows.Member r)) = refl
still_there n room o = refl

suits_still : (want : Want) (n room : ℕ) (o : Option Row) → suits want (row_into_room n room o) ≡ suits want o
suits_still Anything n room o = refl
suits_still (Sends m) n room (Some (rows.Member r)) = refl
suits_still (Sends m) n room o = refl
suits_still (Carries c) n room (Some (rows.Member r)) = refl
suits_still (Carries c) n room o = refl

-- a room of the same rate carries the same codec
carries_too : (codec : Codec) (o p : Option Row) → same_rate (rate_of_room o) (rate_of_room p) ≡ true
    → suits (Carries codec) o ≡ true → suits (Carries codec) p ≡ true
carries_too codec o (Some (rows.Room s)) e h = by o e h where
  by : (o : Option Row) → same_rate (rate_of_room o) (Some s.rate) ≡ true → suits (Carries codec) o ≡ true
      → carries s.rate codec ≡ true
  by (Some (rows.Room r)) e h = ap (λ n. carries n codec) (sym (eqb-true r.rate s.rate e)) ∙ h
  by o e h = cc
carries_too codec o p e h = refl

base_together : (d : Desk) (x : Row) → is_base (key_of x) ≡ true → are_together d (names x) ≡ true
base_together d (rows.Room r) h = refl
base_together d x h = cc

same_claims : (room : ℕ) (m : MemberRow) (c : Claim)
    → makes c (rows.Member (record m { room = room })) ≡ makes c (rows.Member m)
same_claims room m (claims.Key k) = refl
same_claims room m c = refl

same_bridge : (d d' : Desk) → d'.bridge_ssrc ≡ d.bridge_ssrc → (c : Claim) → is_bridges d' c ≡ is_bridges d c
same_bridge d d' is (claims.Ssrc s) = ap (nat_eq s) is
same_bridge d d' is c = refl

module _ (d : Desk) (n room : ℕ) (g : good d ≡ true) (h : first_case (move_cases d n room) ≡ None) where
  abbrev e : EditOf
  e = moves_member d n room

  abbrev dm : Desk
  dm = with_member_in d n room

  abbrev w : Desk
  w = with_moved d n room

  abbrev t : Row → Bool
  t = λ r. are_together dm (names r)

  abbrev crosses : Row → Bool
  crosses = λ r. not (are_together dm (names r))

  abbrev is_it : MemberRow → Bool
  is_it = λ m. nat_eq m.member n

  abbrev into : MemberRow → MemberRow
  into = λ m. record m { room = room }

  abbrev moved : List Placed
  moved = map (placed_in room) (placed_from 0 is_it d.members)

  is : exchanged d e ≡ w
  is =
      sweep_is d is_it crosses moved g _ (put_back_all is_it into d.members)
      ∙ (λ i. record dm { others = filter (λ x. not-not (t x) i) d.others })

  move_apt : Apt d e
  move_apt = sweep_apt d is_it crosses moved g (back_rise is_it into d.members) (can_put_all is_it into d.members)

  -- ---- what keys find

  rows_w : rows_of w ≡ filter t (rows_of dm)
  rows_w =
      sym (filter-append t (map rows.Member dm.members) d.others
      ∙ ap (λ xs. xs ++ filter t d.others) (filter_all t (map rows.Member dm.members) (members dm.members))) where
        members : (ms : List MemberRow) → list_all t (map rows.Member ms) ≡ true
        members [] = refl
        members (m ∷ ms) = members ms

  found_w : (k : Key) → is_base k ≡ true → row_at w k ≡ row_at dm k
  found_w k base =
      ap (find (has_key k)) rows_w
      ∙ found_filter (has_key k) t (rows_of dm) (λ x own. base_together dm x (ap is_base (its_key k x own) ∙ base))

  found_m : (k : Key) → row_at dm k ≡ row_into_room n room (row_at d k)
  found_m k = found_moved n room d (keyed_good d g) k

  there_w : (k : Key) → is_base k ≡ true → has w k ≡ has d k
  there_w k base =
      is_found (has_key k) (rows_of w)
      ∙ ap is_some (found_w k base ∙ found_m k)
      ∙ still_there n room (row_at d k)
      ∙ sym (is_found (has_key k) (rows_of d))

  suits_w : (x : Row) → all_suit w x ≡ all_suit d x
  suits_w x =
      each_alike dm w is_base found_w (suits (wants x)) (names x) (names_base x)
      ∙ (λ i.
      list_all (λ k. (ap (suits (wants x)) (found_m k) ∙ suits_still (wants x) n room (row_at d k)) i) (names x))

  -- ---- counts

  counts_w : (q : Row → Bool) → ((m : MemberRow) → q (rows.Member (into m)) ≡ q (rows.Member m))
      → count_by q (rows_of w) ≤ count_by q (rows_of d)
  counts_w q same =
      let all : count_by q (rows_of w) ≡ count_by q (filter t (rows_of dm)) = ap (count_by q) rows_w in
      omega
      (arith, all, count_filter q t (rows_of dm), count_moved n room d (plain_others d g) q (moved_keeps n room q same))

  -- ---- audio

  audio_of : (k : ℕ) (x : Row) → is_audio_in w k x ≡ true
      → (is_audio_in d k x ≡ true) ⊎ ((is_audio_of n x ≡ true) × (nat_eq room k ≡ true))
  audio_of k (rows.Source s) own =
      let both = and_parts (same_media s.media Audio) (same_room (room_of w (rows.Source s)) (Some k)) own in
      by (row_at d (keys.Member s.member)) refl
      (ap (λ o. same_room (room_of_member o) (Some k))
      (sym (found_w (keys.Member s.member) refl ∙ found_m (keys.Member s.member)))
      ∙ both.1)
      both.0 where
        by : (o : Option Row) → row_at d (keys.Member s.member) ≡ o
            → same_room (room_of_member (row_into_room n room o)) (Some k) ≡ true → same_media s.media Audio ≡ true →
            (is_audio_in d k (rows.Source s) ≡ true) ⊎ ((is_audio_of n (rows.Source s) ≡ true) × (nat_eq room k ≡ true))
        by (Some (rows.Member m)) e f media =
            let own = (found_there (has_key (keys.Member s.member)) (rows_of d) (rows.Member m) e).1 in
            elim (cases_Bool (nat_eq m.member n)) [
              | inl it ↦
                  inr (
                    and_from _ _ media (ap (λ x. nat_eq x n) (sym (eqb-true m.member s.member own)) ∙ it),
                    sym (ap (λ b. nat_eq (cond b (into m) m).room k) it) ∙ f,
                  )
              | inr it ↦
                  inl (and_from _ _ media (ap (λ o. same_room (room_of_member o) (Some k)) e
                  ∙ sym (ap (λ b. nat_eq (cond b (into m) m).room k) it)
                  ∙ f))
            ]
        by o e f media = cc
  audio_of k x own = cc

  few_audio : (r : RoomRow) → is_in (rows_of d) (rows.Room r) ≡ true
      → count_by (is_audio_in w r.room) w.others ≤ room_audio_limit
  few_audio r one = elim (cases_Bool (nat_eq room r.room)) [
    | inl same ↦
        let two =
        two_pass (is_audio_in w r.room) (is_audio_in d r.room) (is_audio_of n) d.others
        (λ x own. elim (audio_of r.room x own) [
          | inl was ↦ inl was
          | inr now ↦ inr now.0
        ]) in
        let few =
        ltb-false room_audio_limit (count_by (is_audio_in d room) d.others + count_by (is_audio_of n) d.others)
        (none_holds (move_cases d n room) h).1.1.1.0 in
        let alike : count_by (is_audio_in d room) d.others ≡ count_by (is_audio_in d r.room) d.others =
        ap (λ k. count_by (is_audio_in d k) d.others) (eqb-true room r.room same) in
        omega (arith, less, two, few, alike)
    | inr other ↦
        let one_of =
        fewer_pass (is_audio_in w r.room) (is_audio_in d r.room) d.others (λ x own. elim (audio_of r.room x own) [
          | inl was ↦ was
          | inr now ↦ absurd (true_false (sym now.1 ∙ other))
        ]) in
        omega (arith, less, one_of, good_audio d g r one)
  ] where
    less : count_by (is_audio_in w r.room) (filter t d.others) ≤ count_by (is_audio_in w r.room) d.others
    less = count_filter (is_audio_in w r.room) t d.others

  -- ---- the member that comes

  alone_w : (m : MemberRow) → is_in (rows_of d) (rows.Member m) ≡ true
      → is_alone w (rows.Member (into_room n room m)) ≡ true
  alone_w m there =
      ap (list_all (is_made_once w)) (into_keeps n room (λ x. claims_of (rows.Member x)) (λ x. refl) m)
      ∙ all_both (λ c. makes c (rows.Member m)) (is_made_once d) (is_made_once w) once (claims_of (rows.Member m))
      (own_claims (rows.Member m)) (at_each (is_alone d) (rows_of d) (rows.Member m) (good_parts d g).alone there) where
        here : is_in (rows_of w) (rows.Member (into_room n room m)) ≡ true
        here =
            ap (λ rs. is_in rs (rows.Member (into_room n room m))) rows_w
            ∙ is_in-filter t (rows.Member (into_room n room m)) (rows_of dm)
            ∙ and_from _ _
            (ap (λ rs. is_in rs (rows.Member (into_room n room m))) (rows_moved n room d (plain_others d g))
            ∙ moved_in n room (rows_of d) (rows.Member m) there)
            refl

        once : (c : Claim) → makes c (rows.Member m) ≡ true → is_made_once d c ≡ true → is_made_once w c ≡ true
        once c own made =
            let both = and_parts (nat_eq (count_by (makes c) (rows_of d)) 1) (not (is_bridges d c)) made in
            let was = eqb-true (count_by (makes c) (rows_of d)) 1 both.0 in
            let less = counts_w (makes c) (λ x. same_claims room x c) in
            let some =
            any_counts (makes c) (rows_of w) (rows.Member (into_room n room m)) here
            (into_keeps n room (λ x. makes c (rows.Member x)) (λ x. same_claims room x c) m ∙ own) in
            and_from _ _ (eq-eqb (count_by (makes c) (rows_of w)) 1 (omega (arith, was, less, some)))
            (ap not (same_bridge d w refl c) ∙ both.1)

  -- the room that it comes into carries its codec, as its own room does
  carried : (m : MemberRow) → is_in (rows_of d) (rows.Member m) ≡ true → is_it m ≡ true
      → suits (Carries m.codec) (row_at w (keys.Room room)) ≡ true
  carried m there it =
      let found : row_at d (keys.Member n) ≡ Some (rows.Member m) =
      found_one (has_key (keys.Member n)) (rows_of d) (rows.Member m) ((keyed_good d g).once (keys.Member n)) there
      it in
      let own =
      (and_parts (suits (Carries m.codec) (row_at d (keys.Room m.room))) true (obeyed d g (rows.Member m) there).2).0 in
      let rates =
      not-false (same_rate (rate_of_member d n) (rate_at d room)) (none_holds (move_cases d n room) h).1.1.1.1.0 in
      let same : same_rate (rate_at d m.room) (rate_at d room) ≡ true =
      sym (ap (λ o. same_rate (option_and_then (rate_at d) (room_of_member o)) (rate_at d room)) found) ∙ rates in
      ap (suits (Carries m.codec)) (found_w (keys.Room room) refl ∙ found_m (keys.Room room))
      ∙ suits_still (Carries m.codec) n room (row_at d (keys.Room room))
      ∙ carries_too m.codec (row_at d (keys.Room m.room)) (row_at d (keys.Room room)) same own

  come_sound : (m : MemberRow) → is_in (map rows.Member d.members) (rows.Member m) ≡ true → is_it m ≡ true
      → is_sound_row w (rows.Member (into m)) ≡ true
  come_sound m one it =
      let there : is_in (rows_of d) (rows.Member m) ≡ true =
      is_in-append (map rows.Member d.members) d.others (rows.Member m) ∙ or_left _ _ one in
      sound_from w (rows.Member (into m))
      (and_from _ _
      (there_w (keys.Room room) refl ∙ not-false (has d (keys.Room room)) (none_holds (move_cases d n room) h).0) refl)
      (sym (ap (λ b. is_alone w (rows.Member (cond b (into m) m))) it) ∙ alone_w m there)
      (and_from _ _ (and_from _ _ (obeyed d g (rows.Member m) there).0 refl)
      (and_from _ _ (and_from _ _ (carried m there it) refl) refl))

  -- ---- the rows that stay

  -- a key that rows name is put where it is taken
  none_crosses : (k : Key) → is_base k ≡ true → list_any (has_key k) (filter crosses d.others) ≡ false
  none_crosses k base = any_none (has_key k) (filter crosses d.others) (λ x one. false_from_ne_true _ (λ its.
      true_false
      (sym (in_filter crosses d.others x one).1 ∙ ap not (base_together dm x (ap is_base (its_key k x its) ∙ base)))))

  takes_puts : (k : Key) → is_base k ≡ true → takes e k ≡ puts e k
  takes_puts k base =
      let row : Placed → Row = λ (p : Placed). rows.Member p.row in
      let these = placed_from 0 is_it d.members in
      list_any-append (has_key k) (map row these) (filter crosses d.others)
      ∙ (λ i. list_any (has_key k) (map row these) || none_crosses k base i) ∙ ap (λ b. b || false) (same these)
      ∙ sym (list_any-append (has_key k) (map row moved) []) where
        same : (ps : List Placed)
            → list_any (has_key k) (map (λ (p : Placed). rows.Member p.row) ps)
            ≡ list_any (has_key k) (map (λ (p : Placed). rows.Member p.row) (map (placed_in room) ps))
        same [] = refl
        same (p ∷ ps) = ap (λ b. has_key k (rows.Member p.row) || b) (same ps)

  keeps : (x : Row) → keeps_names e x ≡ true
  keeps x =
      all_both is_base is_base (λ k. not (takes e k && not (puts e k)))
      (λ k base base'. ap not (ap (λ b. b && not (puts e k)) (takes_puts k base) ∙ and-not_self (puts e k))) (names x)
      (names_base x) (names_base x)

  obeys_w : (x : Row) → is_in (rows_of d) x ≡ true → t x ≡ true → obeys w x ≡ true
  obeys_w x one own =
      let was = obeyed d g x one in
      and_from _ _ (and_from _ _ was.0 (few x one))
      (and_from _ _ (suits_w x ∙ was.2)
      (together_alike dm w is_base found_w (λ k r base at. names_base r) (names x) (names_base x) ∙ own)) where
        few : (x : Row) → is_in (rows_of d) x ≡ true → has_few_audio w x ≡ true
        few (rows.Room r) one = most _ _ (few_audio r one)
        few x one = refl

  pub move_leads : Leads d e w
  move_leads = leads d e w g record {
    apt = move_apt;
    plain = refl;
    within = ap is_within_limits is ∙ fewer_still d w g (λ kind. counts_w (is_of kind) (λ m. refl));
    come = ap (λ q. list_all (is_sound_row q) (come_rows e)) is
        ∙ two_alls (λ (p : Placed). rows.Member p.row) (is_sound_row w) moved [] ∙ and_from _ _
        (list_all-map (λ (p : Placed). is_sound_row w (rows.Member p.row)) (placed_in room)
        (placed_from 0 is_it d.members)
        ∙ picked is_it (λ m. is_sound_row w (rows.Member (into m))) 0 d.members come_sound)
        refl;
    stay = from_each (stays_sound (moves d e) d e) (stay_rows d e) (λ x one.
        stays_asked (moves d e) d e x (keeps x) (ap (λ q. obeys q x) is
        ∙ obeys_w x (was_there d e g move_apt x one) (at_each t (stay_rows d e) x
        (sweep_stays d is_it crosses moved g t (λ m other. refl) (λ x. not-false (t x))) one)));
  } is
