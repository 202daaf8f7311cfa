-- Rows of a desk: how many pass a test, what a key finds, and what a good desk says of a row.
use Rattle.std.specs.Prelude.{◌≡◌, ◌+◌, ◌<◌, ◌≤◌, ◌&&◌, ◌||◌, ◌∷◌, ◌++◌}
use Rattle.desk_rows.specs.laws.Words.{ℕ, Bool, true, false, not, cond, List, [], map, Option, Some, None, refl, sym}
use Rattle.desk_rows.specs.laws.Words.{ap}
use Rattle.desk_rows.specs.laws.Words.{◌∙◌, arith, nat_eq, nat_le, nat_lt, eqb-true, and_parts, and_from, or_left}
use Rattle.desk_rows.specs.laws.Words.{or_right}
use Rattle.desk_rows.specs.laws.Words.{find, list_any, list_all, count_by, Desk, good, rows_of}
use Rattle.desk_rows.specs.laws.Words.{row_at, room_of_member, room_of, room_of_found, room_at, same_room, are_together}
use Rattle.desk_rows.specs.laws.Words.{is_audio_in, all_suit, obeys, is_in, same_row, has_key, key_of, names, makes}
use Rattle.desk_rows.specs.laws.Words.{same_claim, other_claims, claims_of, same_media, is_in_range, kind_of}
use Rattle.desk_rows.specs.laws.Words.{room_audio_limit, false_from_ne_true}
use Rattle.desk_rows.specs.declared.row.Row.{Row}
use Rattle.desk_rows.specs.declared.row.Member.{Member as MemberRow}
use Rattle.desk_rows.specs.declared.key.Key.{Key}
use Rattle.desk_rows.specs.declared.claim.Claim.{Claim}
use Rattle.desk_rows.specs.declared.row.Media.TheVariants.{Audio}
use Rattle.desk_rows.specs.laws.Equal.{claim_itself, key_itself, its_key, same_row_is, row_itself}
use Rattle.desk_rows.specs.laws.ListLaws.{true_false, count_by-append, count_by-map, count_next, found_once, some_count}
use Rattle.desk_rows.specs.laws.OrderLaws.{at_each}
use Rattle.desk_rows.specs.laws.Laws.{good_parts}
use Rattle.desk_rows.specs.laws.ClaimLaws.{claimed_once}
use Rattle.desk_rows.specs.Desk.{has_few_audio, is_named_there}
use Rattle.desk_rows.specs.declared.row.Row.TheVariants as rows
use Rattle.desk_rows.specs.declared.row.Room.{Room as RoomRow}
use Rattle.desk_rows.specs.declared.key.Key.TheVariants as keys
use Rattle.desk_rows.specs.declared.claim.Claim.TheVariants as claims
use Rattle.desk_edit.specs.Refusals.{has}

-- ---- numbers

pub at_most : (m n : ℕ) → nat_le m n ≡ true → m ≤ n
at_most m n h = grind (arith, h)

pub most : (m n : ℕ) → m ≤ n → nat_le m n ≡ true
most m n h = grind (arith, h)

pub below : (m n : ℕ) → nat_lt m n ≡ true → m < n
below m n h = grind (arith, h)

pub not_above : (n : ℕ) → nat_le n n ≡ true
not_above n = most n n (omega arith)

-- ---- tests of each element

-- a test counts one row by 1 or by 0
pub one_yes : (b : Bool) → b ≡ true → ◌≡◌ {A = ℕ} (cond b 1 0) 1
one_yes b e = ap (λ b. cond b 1 0) e

pub one_no : (b : Bool) → b ≡ false → ◌≡◌ {A = ℕ} (cond b 1 0) 0
one_no b e = ap (λ b. cond b 1 0) e

one_alike : (a b : Bool) → a ≡ b → ◌≡◌ {A = ℕ} (cond a 1 0) (cond b 1 0)
one_alike a b e = ap (λ b. cond b 1 0) e

pub all_both : {X : Type 0} (p q t : X → Bool) → ((x : X) → p x ≡ true → q x ≡ true → t x ≡ true) → (xs : List X)
    → list_all p xs ≡ true → list_all q xs ≡ true → list_all t xs ≡ true
all_both p q t each [] h k = refl
all_both p q t each (x ∷ xs) h k =
    let a = and_parts (p x) (list_all p xs) h in
    let b = and_parts (q x) (list_all q xs) k in
    and_from _ _ (each x a.0 b.0) (all_both p q t each xs a.1 b.1)

-- a test that fails wherever two others pass
pub no_any : {X : Type 0} (p q t : X → Bool) → ((x : X) → p x ≡ true → q x ≡ true → t x ≡ false) → (xs : List X)
    → list_all p xs ≡ true → list_all q xs ≡ true → list_any t xs ≡ false
no_any p q t each [] h k = refl
no_any p q t each (x ∷ xs) h k =
    let a = and_parts (p x) (list_all p xs) h in
    let b = and_parts (q x) (list_all q xs) k in
    (λ i. each x a.0 b.0 i || no_any p q t each xs a.1 b.1 i)

-- tests that answer alike on the rows count as many
pub count_alike : (p q : Row → Bool) (xs : List Row) → ((x : Row) → is_in xs x ≡ true → p x ≡ q x)
    → count_by p xs ≡ count_by q xs
count_alike p q [] each = refl
count_alike p q (x ∷ xs) each =
    let rest = count_alike p q xs (λ y one. each y (or_right _ _ one)) in
    let here = one_alike (p x) (q x) (each x (or_left _ _ (row_itself x))) in
    omega (arith, rest, here, count_next p x xs, count_next q x xs)

-- ---- members and other rows

pub two_counts : (p : Row → Bool) (ms : List MemberRow) (xs : List Row)
    → count_by p (map rows.Member ms ++ xs) ≡ count_by (λ m. p (rows.Member m)) ms + count_by p xs
two_counts p ms xs =
    count_by-append p (map rows.Member ms) xs ∙ ap (λ n. n + count_by p xs) (count_by-map rows.Member p ms)

pub rows_count : (p : Row → Bool) (d : Desk)
    → count_by p (rows_of d) ≡ count_by (λ m. p (rows.Member m)) d.members + count_by p d.others
rows_count p d = two_counts p d.members d.others

no_member : (p : Row → Bool) → ((m : MemberRow) → p (rows.Member m) ≡ false) → (ms : List MemberRow)
    → count_by (λ m. p (rows.Member m)) ms ≡ 0
no_member p none [] = refl
no_member p none (m ∷ ms) =
    let rest = no_member p none ms in
    let here = one_no (p (rows.Member m)) (none m) in
    omega (arith, rest, here, count_next (λ m. p (rows.Member m)) m ms)

-- what no member passes is counted among the other rows
pub count_other : (d : Desk) (p : Row → Bool) → ((m : MemberRow) → p (rows.Member m) ≡ false)
    → count_by p (rows_of d) ≡ count_by p d.others
count_other d p none = omega (arith, rows_count p d, no_member p none d.members)

-- ---- what a key finds

pub found_one : (p : Row → Bool) (rs : List Row) (r : Row) → count_by p rs ≤ 1 → is_in rs r ≡ true → p r ≡ true
    → find p rs ≡ Some r
found_one p rs r once one e =
    let f =
    found_once p (same_row r) (λ x s. ap p (sym (same_row_is r x s)) ∙ e) rs (some_count (same_row r) rs one) once in
    f.1 ∙ ap Some (sym (same_row_is r f.0 f.2))

pub found_there : (p : Row → Bool) (rs : List Row) (r : Row) → find p rs ≡ Some r → is_in rs r ≡ true
found_there p [] r h = absurd (cc)
found_there p (x ∷ rs) r h = by (p x) h (found_there p rs r) where
  by : (b : Bool) → cond b (Some x) (find p rs) ≡ Some r → (find p rs ≡ Some r → is_in rs r ≡ true)
      → is_in (x ∷ rs) r ≡ true
  by true e later = (let same : x ≡ r = cc in or_left _ _ (ap (same_row r) same ∙ row_itself r))
  by false e later = or_right _ _ (later e)

pub key_once : (d : Desk) → good d ≡ true → (k : Key) → count_by (has_key k) (rows_of d) ≤ 1
key_once d g k = claimed_once d (claims.Key k) (good_parts d g).alone

-- ---- what a row claims

pub own_claims : (r : Row) → list_all (λ c. makes c r) (claims_of r) ≡ true
own_claims r = and_from _ _ (key_itself (key_of r)) (others r) where
  first : (c : Claim) (cs : List Claim) → list_any (same_claim c) (c ∷ cs) ≡ true
  first c cs = or_left _ _ (claim_itself c)

  second : (c b : Claim) → list_any (same_claim c) (b ∷ c ∷ []) ≡ true
  second c b = or_right (same_claim c b) _ (first c [])

  others : (r : Row) → list_all (λ c. makes c r) (other_claims r) ≡ true
  others (rows.Member m) =
      and_from _ _ (first (claims.Address m.address) (claims.Ssrc m.out_audio ∷ []))
      (and_from _ _ (second (claims.Ssrc m.out_audio) (claims.Address m.address)) refl)
  others (rows.Source s) = and_from _ _ (first (claims.Ssrc s.ssrc) []) refl
  others (rows.Slot s) =
      and_from _ _ (first (claims.Ssrc s.out_ssrc) (claims.Place s.member s.index ∷ []))
      (and_from _ _ (second (claims.Place s.member s.index) (claims.Ssrc s.out_ssrc)) refl)
  others _ = refl

-- ---- what a row's rule says

pub obeyed : (d : Desk) → good d ≡ true → (x : Row) → is_in (rows_of d) x ≡ true
    → (is_in_range x ≡ true) × (has_few_audio d x ≡ true) × (all_suit d x ≡ true) × (are_together d (names x) ≡ true)
obeyed d g x one =
    let all =
    and_parts (is_in_range x && has_few_audio d x) (all_suit d x && are_together d (names x))
    (at_each (obeys d) (rows_of d) x (good_parts d g).obey one) in
    let first = and_parts (is_in_range x) (has_few_audio d x) all.0 in
    let second = and_parts (all_suit d x) (are_together d (names x)) all.1 in
    (first.0, first.1, second.0, second.1)

-- ---- two desks in which such keys find the same

module _ (d e : Desk) (ok : Key → Bool) (same : (k : Key) → ok k ≡ true → row_at e k ≡ row_at d k) where
  room_alike : (x : Row) → list_all ok (names x) ≡ true → room_of e x ≡ room_of d x
  room_alike (rows.Source s) h = ap room_of_member (same (keys.Member s.member) (and_parts _ true h).0)
  room_alike (rows.Slot s) h = ap room_of_member (same (keys.Member s.member) (and_parts _ true h).0)
  room_alike x h = refl

  pub audio_alike : (room : ℕ) (x : Row) → list_all ok (names x) ≡ true → is_audio_in e room x ≡ is_audio_in d room x
  audio_alike room (rows.Source s) h =
      ap (λ o. same_media s.media Audio && same_room o (Some room)) (room_alike (rows.Source s) h)
  audio_alike room x h = refl

  pub each_alike : (q : Option Row → Bool) (ks : List Key) → list_all ok ks ≡ true
      → list_all (λ k. q (row_at e k)) ks ≡ list_all (λ k. q (row_at d k)) ks
  each_alike q [] h = refl
  each_alike q (k ∷ ks) h =
      let both = and_parts (ok k) (list_all ok ks) h in (λ i. q (same k both.0 i) && each_alike q ks both.1 i)

  pub together_alike : ((k : Key) (x : Row) → ok k ≡ true → row_at d k ≡ Some x → list_all ok (names x) ≡ true)
      → (ks : List Key) → list_all ok ks ≡ true → are_together e ks ≡ are_together d ks
  together_alike closed (x ∷ y ∷ []) h =
      let both = and_parts (ok x) (ok y && true) h in
      (λ i. same_room (at x both.0 i) (at y (and_parts (ok y) true both.1).0 i)) where
        found : (k : Key) (o : Option Row) → ok k ≡ true → row_at d k ≡ o → room_of_found e o ≡ room_of_found d o
        found k None own at' = refl
        found k (Some r) own at' = room_alike r (closed k r own at')

        at : (k : Key) → ok k ≡ true → room_at e k ≡ room_at d k
        at k own = ap (room_of_found e) (same k own) ∙ found k (row_at d k) own refl
  together_alike closed ks h = refl

-- ---- a room with an audio source

pub room_with : (n : ℕ) (r : Row) → has_key (keys.Room n) r ≡ true → (q : RoomRow) × (r ≡ rows.Room q) × (q.room ≡ n)
room_with n (rows.Room q) e = (q, refl, eqb-true q.room n e)
room_with n _ e = absurd (cc)

pub room_with_audio : (d : Desk) → good d ≡ true → (room : ℕ) (x : Row) → is_audio_in d room x ≡ true
    → has d (keys.Room room) ≡ true
room_with_audio d g room (rows.Source s) h =
    by (row_at d (keys.Member s.member)) refl
    (and_parts (same_media s.media Audio) (same_room (room_of d (rows.Source s)) (Some room)) h).1 where
      by : (o : Option Row) → row_at d (keys.Member s.member) ≡ o → same_room (room_of_member o) (Some room) ≡ true
          → has d (keys.Room room) ≡ true
      by (Some (rows.Member m)) at e =
          let there = found_there (has_key (keys.Member s.member)) (rows_of d) (rows.Member m) at in
          let named = at_each (is_named_there d) (rows_of d) (rows.Member m) (good_parts d g).named there in
          ap (λ n. has d (keys.Room n)) (sym (eqb-true m.room room e))
          ∙ (and_parts (has d (keys.Room m.room)) true named).0
      by o at e = cc
room_with_audio d g room x h = cc
