-- Nothing stands against a row that a good desk has, on a part of it that has what the row names.
use Rattle.std.specs.Prelude.{◌≡◌, ◌+◌, ◌<◌, ◌≤◌, ◌&&◌, ◌||◌, ◌∷◌, ◌++◌}
use Rattle.desk_rows.specs.laws.Words.{ℕ, nat_le, nat_lt, nat_eq, Bool, true, false, not, cond, List, [], map, count_by}
use Rattle.desk_rows.specs.laws.Words.{Option, Some, None, refl, sym, ap, ◌∙◌, arith, eqb-true, list_any, list_all}
use Rattle.desk_rows.specs.laws.Words.{and_parts, and_from, not-true, false_from_ne_true}
use Rattle.desk_rows.specs.laws.Words.{room_audio_limit, kind_of, key_of, has_key, same_media, same_row, names, suits}
use Rattle.desk_rows.specs.laws.Words.{makes, other_claims, claims_of, is_in_range, is_of, is_in, Desk, good, rows_of}
use Rattle.desk_rows.specs.laws.Words.{row_at, count_of, room_of, same_room, are_together, all_suit, is_audio_in}
use Rattle.desk_rows.specs.laws.Words.{is_bridges, is_made_once, is_named_there, is_alone}
use Rattle.desk_rows.specs.declared.row.Row.{Row}
use Rattle.desk_rows.specs.declared.row.Media.TheVariants.{Audio}
use Rattle.desk_rows.specs.declared.key.Key.{Key}
use Rattle.desk_rows.specs.declared.key.Kind.{Kind}
use Rattle.desk_rows.specs.declared.claim.Claim.{Claim}
use Rattle.desk_rows.specs.Row.{wants}
use Rattle.desk_rows.specs.Kinds.{limits}
use Rattle.desk_rows.specs.Desk.{holds}
use Rattle.desk_rows.specs.laws.Equal.{number_itself, key_itself, its_key, row_itself}
use Rattle.desk_rows.specs.laws.OrderLaws.{at_each}
use Rattle.desk_rows.specs.laws.Laws.{good_parts, any_counts}
use Rattle.desk_rows.specs.laws.ListLaws.{true_false, count_next, none_any, no_count, some_count, count_some}
use Rattle.desk_rows.specs.laws.ClaimLaws.{witness}
use Rattle.desk_rows.specs.declared.row.Row.TheVariants as rows
use Rattle.desk_rows.specs.declared.key.Key.TheVariants as keys
use Rattle.desk_rows.specs.declared.key.Kind.TheVariants as kinds
use Rattle.desk_rows.specs.declared.claim.Claim.TheVariants as claims
use Rattle.desk_edit.specs.declared.refusal.Reason.{Reason}
use Rattle.desk_edit.specs.declared.refusal.Reason.TheVariants as reasons
use Rattle.desk_edit.specs.Refusals.{has, is_claimed, first_case, lacking, is_replaced, is_other_claimed, is_ssrc_taken}
use Rattle.desk_edit.specs.Refusals.{rule_cases, table_of, is_full, full_cases, room_is_full, audio_cases, put_cases}
use Rattle.desk_edit.specs.Refusals.{is_there, is_ssrc, is_wrong_kind, ssrc_is_taken, is_mismatch, rate_cases}
use Rattle.desk_edit.specs.inner.Levels.{level}
use Rattle.desk_groups.specs.inner.Ranked.{level_of}
use Rattle.desk_groups.proofs.RowLemmas.{at_most, below, not_above, one_yes, one_no, no_any, count_alike, count_other}
use Rattle.desk_groups.proofs.RowLemmas.{found_one, found_there, key_once, own_claims}
use Rattle.desk_groups.proofs.RowLemmas.{obeyed, audio_alike, each_alike, together_alike, room_with, room_with_audio}

-- no case holds
abbrev pub NoneHolds : List (Bool × Reason) → Type 0
NoneHolds [] = Unit {0}
NoneHolds (c ∷ cs) = (c.0 ≡ false) × NoneHolds cs

-- ---- cases of which none holds

no_case : (cs : List (Bool × Reason)) → NoneHolds cs → first_case cs ≡ None
no_case [] h = refl
no_case (c ∷ cs) h = ap (λ b. cond b (Some c.1) (first_case cs)) h.0 ∙ no_case cs h.1

both_none : (xs ys : List (Bool × Reason)) → NoneHolds xs → NoneHolds ys → NoneHolds (xs ++ ys)
both_none [] ys h k = k
both_none (x ∷ xs) ys h k = (h.0, both_none xs ys h.1 k)

-- ---- names stand lower

names_lower : (r : Row) → list_all (λ k. nat_lt (level (kind_of k)) (level_of r)) (names r) ≡ true
names_lower (rows.Room r) = refl
names_lower r = refl

-- rows that stand no lower than another, and itself, have no key that it names
none_named : (r : Row) (rs : List Row) (k : Key) → nat_lt (level (kind_of k)) (level_of r) ≡ true
    → list_all (λ x. nat_le (level_of r) (level_of x)) rs ≡ true → count_by (has_key k) rs ≡ 0
none_named r [] k less h = refl
none_named r (x ∷ xs) k less h =
    let both = and_parts (nat_le (level_of r) (level_of x)) (list_all (λ x. nat_le (level_of r) (level_of x)) xs) h in
    let rest = none_named r xs k less both.1 in
    let other : has_key k x ≡ false =
    false_from_ne_true (has_key k x) (λ own.
    let same = ap (λ (q : Key). level (kind_of q)) (its_key k x own) in
    omega (
      arith,
      same,
      below (level (kind_of k)) (level_of r) less,
      at_most (level_of r) (level_of x) both.0,
    )) in
    omega (arith, rest, count_next (has_key k) x xs, one_no (has_key k x) other)

bridge_alike : (d t : Desk) → d.bridge_ssrc ≡ t.bridge_ssrc → (c : Claim) → is_bridges d c ≡ is_bridges t c
bridge_alike d t same (claims.Ssrc s) = ap (λ n. nat_eq s n) same
bridge_alike d t same c = refl

few_audio : (t : Desk) → good t ≡ true → (room : ℕ) (x : Row) → is_audio_in t room x ≡ true
    → count_by (is_audio_in t room) t.others ≤ room_audio_limit
few_audio t g room x h =
    let w = witness (has_key (keys.Room room)) (rows_of t) (room_with_audio t g room x h) in
    let q = room_with room w.0 w.2 in
    let few = (obeyed t g (rows.Room q.0) (ap (is_in (rows_of t)) (sym q.1) ∙ w.1)).1 in
    let same = ap (λ n. count_by (is_audio_in t n) t.others) q.2 in
    omega (arith, same, at_most (count_by (is_audio_in t q.0.room) t.others) room_audio_limit few)

module _ (d t : Desk) (r : Row) (later : List Row) (g : good d ≡ true) (h : good t ≡ true)
    (same_ssrc : d.bridge_ssrc ≡ t.bridge_ssrc)
    (counts : (p : Row → Bool) → count_by p (rows_of d) + count_by p (r ∷ later) ≡ count_by p (rows_of t))
    (lowest : list_all (λ x. nat_le (level_of r) (level_of x)) later ≡ true) where
  -- ---- what is in the part is in the whole

  own_there : is_in (rows_of t) r ≡ true
  own_there =
      let own = count_next (same_row r) r later in
      let one = one_yes (same_row r r) (row_itself r) in
      count_some (same_row r) (rows_of t) (omega (arith, counts (same_row r), own, one))

  still_there : (x : Row) → is_in (rows_of d) x ≡ true → is_in (rows_of t) x ≡ true
  still_there x one =
      count_some (same_row x) (rows_of t) (omega (arith, counts (same_row x), some_count (same_row x) (rows_of d) one))

  -- ---- what the row claims is free

  free_claim : (c : Claim) → makes c r ≡ true → is_made_once t c ≡ true
      → (is_claimed d c ≡ false) × (is_bridges d c ≡ false)
  free_claim c own once =
      let both = and_parts (nat_eq (count_by (makes c) (rows_of t)) 1) (not (is_bridges t c)) once in
      let one = eqb-true (count_by (makes c) (rows_of t)) 1 both.0 in
      let here = count_next (makes c) r later in
      let yes = one_yes (makes c r) own in (
        none_any (makes c) (rows_of d) (omega (arith, counts (makes c), one, here, yes)),
        bridge_alike d t same_ssrc c ∙ not-true (is_bridges t c) both.1,
      )

  alone : list_all (is_made_once t) (claims_of r) ≡ true
  alone = at_each (is_alone t) (rows_of t) r (good_parts t h).alone own_there

  pub new_key : has d (key_of r) ≡ false
  new_key =
      let once =
      and_parts (is_made_once t (claims.Key (key_of r))) (list_all (is_made_once t) (other_claims r)) alone in
      (free_claim (claims.Key (key_of r)) (key_itself (key_of r)) once.0).0

  others_alone : list_all (is_made_once t) (other_claims r) ≡ true
  others_alone =
      (and_parts (is_made_once t (claims.Key (key_of r))) (list_all (is_made_once t) (other_claims r)) alone).1

  others_own : list_all (λ c. makes c r) (other_claims r) ≡ true
  others_own =
      (and_parts (makes (claims.Key (key_of r)) r) (list_all (λ c. makes c r) (other_claims r)) (own_claims r)).1

  not_there : is_there d r ≡ false
  not_there =
      let no : list_any (is_other_claimed d) (other_claims r) ≡ false =
      no_any (λ c. makes c r) (is_made_once t) (is_other_claimed d) (λ c own once. other c (free_claim c own once).0)
      (other_claims r) others_own others_alone in
      (λ i. key (is_replaced r) i || no i) where
        key : (b : Bool) → (not b && has d (key_of r)) ≡ false
        key true = refl
        key false = new_key

        other : (c : Claim) → is_claimed d c ≡ false → is_other_claimed d c ≡ false
        other (claims.Ssrc s) e = refl
        other c e = e

  not_taken : ssrc_is_taken d r ≡ false
  not_taken =
      no_any (λ c. makes c r) (is_made_once t) (is_ssrc_taken d)
      (λ c own once. let f = free_claim c own once in neither (is_ssrc c) f.1 f.0) (other_claims r) others_own
      others_alone where
        neither : {x y : Bool} (b : Bool) → x ≡ false → y ≡ false → (b && (x || y)) ≡ false
        neither true e f = (λ i. e i || f i)
        neither false e f = refl

  not_held : holds d r ≡ false
  not_held = false_from_ne_true (holds d r) (λ one.
      let some = any_counts (has_key (key_of r)) (rows_of d) r one (key_itself (key_of r)) in
      let none = no_count (has_key (key_of r)) (rows_of d) new_key in
      omega (arith, some, none))

  -- ---- what the row names is there

  there_too : (k : Key) → nat_lt (level (kind_of k)) (level_of r) ≡ true → has t k ≡ true → has d k ≡ true
  there_too k less there =
      let own : list_all (λ x. nat_le (level_of r) (level_of x)) (r ∷ later) ≡ true =
      and_from _ _ (not_above (level_of r)) lowest in
      count_some (has_key k) (rows_of d) (omega (
        arith,
        counts (has_key k),
        some_count (has_key k) (rows_of t) there,
        none_named r (r ∷ later) k less own,
      ))

  named : list_all (has d) (names r) ≡ true
  named =
      all (names r) (names_lower r) (at_each (is_named_there t) (rows_of t) r (good_parts t h).named own_there) where
        all : (ks : List Key) → list_all (λ k. nat_lt (level (kind_of k)) (level_of r)) ks ≡ true
            → list_all (has t) ks ≡ true → list_all (has d) ks ≡ true
        all [] a b = refl
        all (k ∷ ks) a b =
            let low = and_parts (nat_lt (level (kind_of k)) (level_of r)) _ a in
            let there = and_parts (has t k) (list_all (has t) ks) b in
            and_from _ _ (there_too k low.0 there.0) (all ks low.1 there.1)

  none_lacks : (ks : List Key) → list_all (has d) ks ≡ true → NoneHolds (lacking d ks)
  none_lacks [] e = tt
  none_lacks (k ∷ ks) e =
      let both = and_parts (has d k) (list_all (has d) ks) e in (ap not both.0, none_lacks ks both.1)

  -- ---- and is found as in the whole

  found : (k : Key) → has d k ≡ true → row_at t k ≡ row_at d k
  found k there =
      let w = witness (has_key k) (rows_of d) there in
      found_one (has_key k) (rows_of t) w.0 (key_once t h k) (still_there w.0 w.1) w.2
      ∙ sym (found_one (has_key k) (rows_of d) w.0 (key_once d g k) w.1 w.2)

  closed : (x : Row) → is_in (rows_of d) x ≡ true → list_all (has d) (names x) ≡ true
  closed x one = at_each (is_named_there d) (rows_of d) x (good_parts d g).named one

  rule : (is_in_range r ≡ true) × (all_suit d r ≡ true) × (are_together d (names r) ≡ true)
  rule =
      let all = obeyed t h r own_there in (
        all.0,
        sym (each_alike d t (has d) found (suits (wants r)) (names r) named) ∙ all.2,
        sym (together_alike d t (has d) found
            (λ k x own at. closed x (found_there (has_key k) (rows_of d) x at)) (names r) named)
            ∙ all.3,
      )

  -- ---- tables have capacity

  not_full : (l : Kind × ℕ) → nat_le (count_of l.0 t) l.1 ≡ true → is_full d r l ≡ false
  not_full l few = by (is_of l.0 r) refl where
    by : (b : Bool) → is_of l.0 r ≡ b → (b && (not (has d (key_of r)) && nat_le l.1 (count_of l.0 d))) ≡ false
    by false e = refl
    by true e =
        let here = count_next (is_of l.0) r later in
        let yes = one_yes (is_of l.0 r) e in
        let all = counts (is_of l.0) in
        let less : nat_le l.1 (count_of l.0 d) ≡ false =
        false_from_ne_true (nat_le l.1 (count_of l.0 d)) (λ more.
        omega (arith, here, yes, all, at_most (count_of l.0 t) l.1 few, at_most l.1 (count_of l.0 d) more)) in
        (λ i. not (new_key i) && less i)

  none_full : (ls : List (Kind × ℕ)) → list_all (λ l. nat_le (count_of l.0 t) l.1) ls ≡ true
      → NoneHolds (map (λ l. (is_full d r l, reasons.Full (table_of l.0) l.1)) ls)
  none_full [] few = tt
  none_full (l ∷ ls) few =
      let both = and_parts (nat_le (count_of l.0 t) l.1) (list_all (λ l. nat_le (count_of l.0 t) l.1) ls) few in
      (not_full l both.0, none_full ls both.1)

  -- ---- audio

  audio_same : (room : ℕ) (x : Row) → is_in (rows_of d) x ≡ true → is_audio_in t room x ≡ is_audio_in d room x
  audio_same room x one = audio_alike d t (has d) found room x (closed x one)

  less_audio : (room : ℕ) → is_audio_in d room r ≡ true
      → nat_le room_audio_limit (count_by (is_audio_in d room) d.others) ≡ false
  less_audio room own =
      let own_t : is_audio_in t room r ≡ true = audio_alike d t (has d) found room r named ∙ own in
      let few = few_audio t h room r own_t in
      let here = count_next (is_audio_in t room) r later in
      let yes = one_yes (is_audio_in t room r) own_t in
      let alike = count_alike (is_audio_in t room) (is_audio_in d room) (rows_of d) (audio_same room) in
      let mine = count_other d (is_audio_in d room) (λ m. refl) in
      let all = count_other t (is_audio_in t room) (λ m. refl) in
      let sum = counts (is_audio_in t room) in
      false_from_ne_true (nat_le room_audio_limit (count_by (is_audio_in d room) d.others)) (λ more.
      let most = at_most room_audio_limit (count_by (is_audio_in d room) d.others) more in
      omega (arith, few, here, yes, alike, mine, all, sum, most))

  none_audio : (x : Row) → r ≡ x → NoneHolds (audio_cases d x)
  none_audio (rows.Source s) is = (by (same_media s.media Audio) (room_of d (rows.Source s)) refl refl, tt) where
    by : (b : Bool) (o : Option ℕ) → same_media s.media Audio ≡ b → room_of d (rows.Source s) ≡ o
        → (b && room_is_full d o) ≡ false
    by false o e f = refl
    by true None e f = refl
    by true (Some room) e f =
        less_audio room
        (ap (is_audio_in d room) is
        ∙ and_from _ _ e (ap (λ o. same_room o (Some room)) f ∙ number_itself room))
  none_audio x is = tt

  -- ---- all

  pub nothing_against : first_case (put_cases d r) ≡ None
  nothing_against =
      let wrong : is_wrong_kind d r ≡ false =
      ap (λ b. not (is_of kinds.Member r) && not b) rule.1 ∙ not_both (not (is_of kinds.Member r)) in
      let mismatch : is_mismatch d r ≡ false =
      ap (λ b. is_of kinds.Member r && not b) rule.1 ∙ not_both (is_of kinds.Member r) in
      let rates : NoneHolds (rate_cases d r) = (mismatch, tt) in
      let rules : NoneHolds (rule_cases d r) =
      (wrong, (ap not rule.2, (not_taken, (ap not rule.0, (not_held, tt))))) in
      let late = both_none (audio_cases d r) (rate_cases d r) (none_audio r refl) rates in
      let full =
      both_none (full_cases d r) (audio_cases d r ++ rate_cases d r) (none_full limits (good_parts t h).within) late in
      let ruled = both_none (rule_cases d r) (full_cases d r ++ (audio_cases d r ++ rate_cases d r)) rules full in
      let all =
      both_none (lacking d (names r)) (rule_cases d r ++ (full_cases d r ++ (audio_cases d r ++ rate_cases d r)))
      (none_lacks (names r) named) ruled in
      no_case (put_cases d r) (not_there, all) where
        not_both : (b : Bool) → (b && false) ≡ false
        not_both true = refl
        not_both false = refl
