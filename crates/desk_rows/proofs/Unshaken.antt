-- The rule of a row that stays holds on where the edit does not touch what it looks at.
use Rattle.std.specs.Prelude.{◌≡◌, ◌≤◌, ◌||◌, ◌∷◌, ◌&&◌}
use Rattle.desk_rows.specs.laws.Words.{ℕ, Bool, true, false, List, [], Option, None, Some, refl, sym, ap, ◌∙◌, arith}
use Rattle.desk_rows.specs.laws.Words.{map, nat_eq, not, inl, inr, eqb-true, nat_le, or_left, or_right, or_cases}
use Rattle.desk_rows.specs.laws.Words.{and_parts, and_from, cases_Bool, false_from_ne_true, not-true, not-false}
use Rattle.desk_rows.specs.laws.Words.{or_parts, leb-true, le-leb, list_any, list_all, is_some, count_by, Placed, Key}
use Rattle.desk_rows.specs.laws.Words.{Media, Audio, Video, MemberRow, Row, Member, Room, Source, Slot, Sub, Gain, Pin}
use Rattle.desk_rows.specs.laws.Words.{Floor, Desk, rows_of, is_named_there, row_at, obeys, room_of_member, room_of}
use Rattle.desk_rows.specs.laws.Words.{room_of_found, room_at, same_room, is_audio_in, all_suit, are_together, good}
use Rattle.desk_rows.specs.laws.Words.{EditOf, outs, ins, exchanged, IsKeyed, is_of, room_audio_limit, is_in, with_rows}
use Rattle.desk_rows.specs.laws.Words.{without_rows, take_at, has_key, names, same_media, Want, suits, is_in_range}
use Rattle.desk_rows.specs.laws.Words.{finds, is_elsewhere, come_rows, takes, puts, stay_rows, keeps_names, moves}
use Rattle.desk_rows.specs.laws.Words.{is_shaken}
use Rattle.desk_rows.specs.declared.key.Key.TheVariants as keys
use Rattle.desk_rows.specs.declared.key.Kind.TheVariants as kinds
use Rattle.desk_rows.specs.Row.Want.{Anything, Sends, Carries}
use Rattle.desk_rows.specs.Desk.{has_few_audio}
use Rattle.desk_rows.specs.laws.ClaimLaws.{witness}
use Rattle.desk_rows.specs.laws.Equal.{row_itself}
use Rattle.desk_rows.specs.laws.Laws.{Apt, outs_order, good_parts, good_order, any_counts, is_in-append}
use Rattle.desk_rows.specs.laws.ListLaws.{true_false, count_next, count_some, no_count, is_found}
use Rattle.desk_rows.specs.laws.OrderLaws.{at_each, count_by-with_rows, count_by-without_rows}
use Rattle.desk_rows.proofs.Counts.{list_any-map}
use Rattle.desk_rows.proofs.Finding.{found_there, was_there, untaken, found_coming, found_kept}

no_more : (p q : Row → Bool) (rs : List Row) → ((r : Row) → is_in rs r ≡ true → p r ≡ true → q r ≡ true)
    → count_by p rs ≤ count_by q rs
no_more p q [] each = omega arith
no_more p q (r ∷ rs) each =
    let rest = no_more p q rs (λ x one. each x (or_right _ _ one)) in
    let here = each r (or_left _ _ (row_itself r)) in
    grind (arith, rest, here, count_next p r rs, count_next q r rs)

-- the row of a member's key is a member's
member_of : (n : ℕ) (r : Row) → has_key (keys.Member n) r ≡ true → (m : MemberRow) × (r ≡ Member m)
member_of n (Member m) e = (m, refl)
member_of n _ e = cc

some_row : (o : Option Row) → is_some o ≡ true → (r : Row) × (o ≡ Some r)
some_row None h = absurd (true_false (sym h))
some_row (Some r) h = (r, refl)

-- a member that was in another room
was_elsewhere : Desk → Row → Bool
was_elsewhere d (Member p) = finds (is_elsewhere p.room) (row_at d (keys.Member p.member))
was_elsewhere d _ = false

pub neither : (b c : Bool) → (b || c) ≡ false → (b ≡ false) × (c ≡ false)
neither b c e = or_parts b c e

-- ---- given a good desk and an apt edit by which no row comes under the key of another

module _ (d : Desk) (e : EditOf) (g : good d ≡ true) (a : Apt d e) (keyed : IsKeyed (exchanged d e)) where
  -- a row that is there and is not taken is found as before
  row_kept : (key : Key) → takes e key ≡ false → list_any (has_key key) (rows_of d) ≡ true
      → row_at (exchanged d e) key ≡ row_at d key
  row_kept key none there =
      let old = some_row (row_at d key) (sym (is_found (has_key key) (rows_of d)) ∙ there) in
      found_kept d e g a keyed key old.0 none old.1 ∙ sym old.1

  -- the rule of a row that names one
  pub one_kept : (want : Want) (x : Key) → (takes e x || false) ≡ false
      → (list_any (has_key x) (rows_of d) && true) ≡ true →
      ((suits want (row_at d x) && true) && true) ≡ true
      → ((suits want (row_at (exchanged d e) x) && true) && true) ≡ true
  one_kept want x calm there h =
      let kept =
      row_kept x (neither (takes e x) false calm).0 (and_parts (list_any (has_key x) (rows_of d)) true there).0 in
      (λ i. (suits want (kept i) && true) && true) ∙ h

-- ---- and by which no member moves

module _ (d : Desk) (e : EditOf) (g : good d ≡ true) (a : Apt d e) (keyed : IsKeyed (exchanged d e))
    (plain : list_all (λ r. not (is_of kinds.Member r)) (ins e) ≡ true) (still : moves d e ≡ false) where
  not_elsewhere : (r : Row) → is_in (map (λ (p : Placed). Member p.row) e.put.members) r ≡ true
      → was_elsewhere d r ≡ false
  unfolding was_elsewhere
  not_elsewhere r one = false_from_ne_true _ (λ moved.
      let joining = map (λ (p : Placed). Member p.row) e.put.members in
      let some = any_counts (was_elsewhere d) joining r one moved in
      true_false (sym (count_some (was_elsewhere d) joining some)
      ∙ list_any-map (λ (p : Placed). Member p.row) (was_elsewhere d) e.put.members
      ∙ still))

  -- a member that does not go for good stays in its room
  stays_in : (n : ℕ) → list_any (has_key (keys.Member n)) (rows_of d) ≡ true
      → not (takes e (keys.Member n) && not (puts e (keys.Member n))) ≡ true →
      room_of_member (row_at (exchanged d e) (keys.Member n)) ≡ room_of_member (row_at d (keys.Member n))
  unfolding was_elsewhere
  stays_in n there keep =
      let key = keys.Member n in
      let old = some_row (row_at d key) (sym (is_found (has_key key) (rows_of d)) ∙ there) in
      let m = member_of n old.0 (found_there (has_key key) (rows_of d) old.0 old.1).1 in
      let was : row_at d key ≡ Some (Member m.0) = old.1 ∙ ap Some m.1 in
      elim (cases_Bool (takes e key)) [
        | inr none ↦
            ap room_of_member (found_kept d e g a keyed key (Member m.0) none was) ∙ sym (ap room_of_member was)
        | inl goes ↦
            let w = witness (has_key key) (come_rows e) (must (takes e key) (puts e key) keep goes) in
            let p = member_of n w.0 w.2 in
            let joins : is_in (map (λ (p : Placed). Member p.row) e.put.members) (Member p.0) ≡ true =
            joined (Member p.0) refl (ap (is_in (come_rows e)) (sym p.1) ∙ w.1) in
            let own : nat_eq p.0.member n ≡ true = ap (has_key key) (sym p.1) ∙ w.2 in
            let none : not (nat_eq m.0.room p.0.room) ≡ false =
            sym (ap (λ k. finds (is_elsewhere p.0.room) (row_at d (keys.Member k))) (eqb-true p.0.member n own)
            ∙ ap (finds (is_elsewhere p.0.room)) was)
            ∙ not_elsewhere (Member p.0) joins in
            let is : row_at (exchanged d e) key ≡ Some (Member p.0) =
            found_coming d e g a keyed key (Member p.0) (ap (is_in (come_rows e)) (sym p.1) ∙ w.1) own in
            ap room_of_member is
            ∙ ap Some (sym (eqb-true m.0.room p.0.room (not-false _ none)))
            ∙ sym (ap room_of_member was)
      ] where
        must : (s t : Bool) → not (s && not t) ≡ true → s ≡ true → t ≡ true
        must s t h k = grind (arith, h, k)

        joined : (r : Row) → is_of kinds.Member r ≡ true → is_in (come_rows e) r ≡ true
            → is_in (map (λ (p : Placed). Member p.row) e.put.members) r ≡ true
        joined r kind one =
            elim (or_cases (is_in (map (λ (p : Placed). Member p.row) e.put.members) r) (is_in (ins e) r)
            (sym (is_in-append (map (λ (p : Placed). Member p.row) e.put.members) (ins e) r) ∙ one)) [
              | inl here ↦ here
              | inr beside ↦
                  absurd
                  (true_false
                  (sym kind ∙ not-true _ (at_each (λ x. not (is_of kinds.Member x)) (ins e) r plain beside)))
            ]

  module _ (keep : list_all (keeps_names e) (stay_rows d e) ≡ true) where
    -- what a row that stays names stays
    named : (r : Row) → is_in (stay_rows d e) r ≡ true → (is_named_there d r ≡ true) × (keeps_names e r ≡ true)
    named r one = (
      at_each (is_named_there d) (rows_of d) r (good_parts d g).named (was_there d e g a r one),
      at_each (keeps_names e) (stay_rows d e) r keep one,
    )

    -- and it stays in its room
    room_kept : (r : Row) → is_in (stay_rows d e) r ≡ true → room_of (exchanged d e) r ≡ room_of d r
    room_kept (Source s) one =
        let both = named (Source s) one in
        stays_in s.member (and_parts (list_any (has_key (keys.Member s.member)) (rows_of d)) true both.0).0
        (and_parts _ true both.1).0
    room_kept (Slot s) one =
        let both = named (Slot s) one in
        stays_in s.member (and_parts (list_any (has_key (keys.Member s.member)) (rows_of d)) true both.0).0
        (and_parts _ true both.1).0
    room_kept _ one = refl

    beside_members : (r : Row) → is_in (without_rows (outs e) d.others) r ≡ true → is_in (stay_rows d e) r ≡ true
    beside_members r one =
        is_in-append (map Member (take_at e.taken.members d.members)) (without_rows (outs e) d.others) r
        ∙ or_right _ _ one

    -- a room has no more audio than it had
    few_audio : (room : ℕ) → list_any (is_audio_in (exchanged d e) room) (ins e) ≡ false
        → nat_le (count_by (is_audio_in d room) d.others) room_audio_limit ≡ true
        → nat_le (count_by (is_audio_in (exchanged d e) room) (exchanged d e).others) room_audio_limit ≡ true
    unfolding exchanged
    few_audio room none few =
        let now = is_audio_in (exchanged d e) room in
        let left = without_rows (outs e) d.others in
        let parts = count_by-with_rows now (ins e) left in
        let zero = no_count now (ins e) none in
        let stay = no_more now (is_audio_in d room) left was_audio in
        let less =
        count_by-without_rows (is_audio_in d room) (outs e) d.others (good_order d g) (outs_order a) a.outs_there in
        le-leb (count_by now (with_rows (ins e) left)) room_audio_limit
        (omega (arith, leb-true _ _ few, parts, zero, stay, less)) where
          was_audio : (r : Row) → is_in (without_rows (outs e) d.others) r ≡ true
              → is_audio_in (exchanged d e) room r ≡ true → is_audio_in d room r ≡ true
          was_audio (Source s) one h =
              ap (λ o. same_media s.media Audio && same_room o (Some room))
              (sym (room_kept (Source s) (beside_members (Source s) one)))
              ∙ h
          was_audio _ one h = h

    -- a row that is there and is not taken is found as before
    record FoundAs (key : Key) : Type 0 where
      row : row_at (exchanged d e) key ≡ row_at d key
      room : room_at (exchanged d e) key ≡ room_at d key

    found_as : (key : Key) → takes e key ≡ false → list_any (has_key key) (rows_of d) ≡ true → FoundAs key
    found_as key none there =
        let old = some_row (row_at d key) (sym (is_found (has_key key) (rows_of d)) ∙ there) in
        let at = found_there (has_key key) (rows_of d) old.0 old.1 in
        let is = found_kept d e g a keyed key old.0 none old.1 in
        record {
          row = is ∙ sym old.1;
          room =
              ap (room_of_found (exchanged d e)) is
              ∙ room_kept old.0 (untaken d e g a key old.0 none at.0 at.1)
              ∙ sym (ap (room_of_found d) old.1);
        }

    -- the rule of a row that names two
    pair_kept : (want : Want) (x y : Key) → (takes e x || (takes e y || false)) ≡ false
        → (list_any (has_key x) (rows_of d) && (list_any (has_key y) (rows_of d) && true)) ≡ true →
        ((suits want (row_at d x) && (suits want (row_at d y) && true)) && same_room (room_at d x) (room_at d y)) ≡ true
        →
        ((suits want (row_at (exchanged d e) x) && (suits want (row_at (exchanged d e) y) && true))
        && same_room (room_at (exchanged d e) x) (room_at (exchanged d e) y))
        ≡ true
    pair_kept want x y calm there h =
        let none = neither (takes e x) (takes e y || false) calm in
        let both = and_parts (list_any (has_key x) (rows_of d)) (list_any (has_key y) (rows_of d) && true) there in
        let one = found_as x none.0 both.0 in
        let two =
        found_as y (neither (takes e y) false none.1).0 (and_parts (list_any (has_key y) (rows_of d)) true both.1).0 in
        (λ i. (suits want (one.row i) && (suits want (two.row i) && true)) && same_room (one.room i) (two.room i)) ∙ h

    pub unshaken : (r : Row) → is_in (stay_rows d e) r ≡ true → is_shaken false d e r ≡ false → obeys d r ≡ true
        → obeys (exchanged d e) r ≡ true
    unshaken (Room r) one calm h =
        let none = neither (list_any (is_audio_in (exchanged d e) r.room) (ins e)) false calm in
        let parts = and_parts (is_in_range (Room r) && has_few_audio d (Room r)) true h in
        let both = and_parts (is_in_range (Room r)) (has_few_audio d (Room r)) parts.0 in
        and_from _ _ (and_from _ _ both.0 (few_audio r.room none.0 both.1)) refl
    unshaken (Member m) one calm h =
        let both =
        and_parts (is_in_range (Member m) && true) (all_suit d (Member m) && are_together d (names (Member m))) h in
        and_from _ _ both.0
        (one_kept d e g a keyed (Carries m.codec) (keys.Room m.room) calm (named (Member m) one).0 both.1)
    unshaken (Sub s) one calm h =
        pair_kept (Sends Video) (keys.Source s.source) (keys.Slot s.out_ssrc) calm (named (Sub s) one).0 h
    unshaken (Gain s) one calm h =
        let both =
        and_parts (is_in_range (Gain s) && true) (all_suit d (Gain s) && are_together d (names (Gain s))) h in
        and_from _ _ both.0
        (pair_kept (Sends Audio) (keys.Member s.member) (keys.Source s.source) calm (named (Gain s) one).0 both.1)
    unshaken (Pin s) one calm h =
        pair_kept (Sends Video) (keys.Room s.room) (keys.Source s.source) calm (named (Pin s) one).0 h
    unshaken (Floor s) one calm h =
        pair_kept Anything (keys.Room s.room) (keys.Member s.member) calm (named (Floor s) one).0 h
    unshaken _ one calm h = h
