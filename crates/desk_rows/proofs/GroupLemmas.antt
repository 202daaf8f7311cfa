-- Tables of what is in rows: made, counted, and parted by groups.
use Rattle.std.specs.Prelude.{◌≡◌, ◌<◌, ◌≤◌, ◌||◌, ◌∷◌, ◌+◌, ◌&&◌}
use Rattle.desk_rows.specs.laws.Words.{ℕ, zero, suc, Bool, true, false, cond, List, [], length, get_or, nat_lt, Option}
use Rattle.desk_rows.specs.laws.Words.{None, Some, refl, sym, ap, ◌∙◌, arith, nat_eq, inl, inr, filter, eqb-true}
use Rattle.desk_rows.specs.laws.Words.{insert, remove, drop, not, not-true, nat_le, le_of_eq, and_parts, and_from}
use Rattle.desk_rows.specs.laws.Words.{cases_Bool, leb-true, leb-false, le-leb, nat_tests, sum_by-IsPermutation}
use Rattle.desk_rows.specs.laws.Words.{count_by-le-length, list_all, filter_map, cons_option, IsNonDecreasingBy}
use Rattle.desk_rows.specs.laws.Words.{IsPermutation, IsSortedByKey, nat_cmp, is_lt, ordering_then, count_by, Kind, Row}
use Rattle.desk_rows.specs.laws.Words.{after, is_of, same_row, stand_by, in_turn, passes_if, passes_in, Parts}
use Rattle.desk_rows.specs.laws.ListLaws.{SameCounts, count_next, count_yes, count_no, true_false, same_length}
use Rattle.desk_rows.specs.laws.ListLaws.{all_pass, stand_by-filter, ahead_may, falling}
use Rattle.std.proofs.Common.{length-drop}
use Rattle.desk_rows.specs.laws.Equal.{same_row_is}
use Rattle.desk_rows.proofs.Halving.{later_parts}

-- ---- counts

count-cons_option : {X : Type 0} (p : X → Bool) (o : Option X) (xs : List X)
    → count_by p (cons_option o xs) ≡ cond (passes_if p o) 1 0 + count_by p xs
count-cons_option p None xs = omega arith
count-cons_option p (Some x) xs = count_next p x xs

-- as many of what is in rows pass as rows that have one which passes
pub count_in : {X : Type 0} (in_row : Row → Option X) (p : X → Bool) (rows : List Row)
    → count_by p (filter_map in_row rows) ≡ count_by (passes_in in_row p) rows
count_in in_row p [] = refl
count_in in_row p (r ∷ rows) =
    let rest = count_in in_row p rows in
    omega (arith, rest, count-cons_option p (in_row r) (filter_map in_row rows), count_next (passes_in in_row p) r rows)

-- all of these are in rows of the kind
pub count_of_kind : {X : Type 0} (kind : Kind) (in_row : Row → Option X)
    → ((r : Row) → is_of kind r ≡ false → in_row r ≡ None) → (p : X → Bool) (rows : List Row)
    → count_by (passes_in in_row p) (filter (is_of kind) rows) ≡ count_by (passes_in in_row p) rows
count_of_kind kind in_row other p [] = refl
count_of_kind kind in_row other p (r ∷ rows) =
    grind (
      arith,
      other r,
      count_of_kind kind in_row other p rows,
      count_next (passes_in in_row p) r rows,
      count_next (passes_in in_row p) r (filter (is_of kind) rows),
    )

-- where no row is of the kind, there is none
pub none_of_kind : {X : Type 0} (kind : Kind) (in_row : Row → Option X)
    → ((r : Row) → is_of kind r ≡ false → in_row r ≡ None) → (p : X → Bool) (rows : List Row)
    → length (filter (is_of kind) rows) ≡ 0 → count_by (passes_in in_row p) rows ≡ 0
none_of_kind kind in_row other p rows h =
    omega (
      arith,
      h,
      count_of_kind kind in_row other p rows,
      count_by-le-length (passes_in in_row p) (filter (is_of kind) rows),
    )

pub count_moved : {X : Type 0} (p : X → Bool) (xs ys : List X) → IsPermutation xs ys → count_by p ys ≡ count_by p xs
count_moved p xs ys moved = sum_by-IsPermutation (λ x. cond (p x) 1 0) xs ys moved

-- ---- order

-- what stands behind an element that another may stand before, that may stand before too
all_behind : {X : Type 0} (may : X → X → Bool) → ((a b c : X) → may a b ≡ true → may b c ≡ true → may a c ≡ true)
    → (x y : X) (zs : List X) → may x y ≡ true → list_all (may y) zs ≡ true → list_all (may x) zs ≡ true
all_behind may on x y [] e h = refl
all_behind may on x y (z ∷ zs) e h = grind (arith, e, h, on x y z, all_behind may on x y zs)

-- where neighbours may stand as they do, all may
from_neighbours : {X : Type 0} (may : X → X → Bool) → ((a b c : X) → may a b ≡ true → may b c ≡ true → may a c ≡ true)
    → (xs : List X)
    → ((k : ℕ) (d : X) → suc k < length xs → may (get_or xs k d) (get_or xs (suc k) d) ≡ true) → stand_by may xs ≡ true
from_neighbours may on [] h = refl
from_neighbours may on (x ∷ []) h = refl
from_neighbours may on (x ∷ y ∷ xs) h =
    let rest : stand_by may (y ∷ xs) ≡ true = from_neighbours may on (y ∷ xs) (λ k d lt. h (suc k) d (omega arith)) in
    let first : may x y ≡ true = h 0 x (omega arith) in
    and_from _ _
    (and_from _ _ first (all_behind may on x y xs first (and_parts (list_all (may y) xs) (stand_by may xs) rest).0))
    rest

pub in_turn_on : {X : Type 0} (group turn : X → ℕ) (a b c : X) → in_turn group turn a b ≡ true
    → in_turn group turn b c ≡ true → in_turn group turn a c ≡ true
in_turn_on group turn a b c h k = grind (arith, nat_tests, h, k)

-- what a sort by group and turn gives
pub sorted_stands : {X : Type 0} (group turn : X → ℕ) (xs : List X)
    → IsSortedByKey {K = ℕ × ℕ} (λ x. (group x, turn x)) (λ a b. ordering_then (nat_cmp a.0 b.0) (nat_cmp a.1 b.1)) xs
    → stand_by (in_turn group turn) xs ≡ true
sorted_stands group turn xs up =
    from_neighbours (in_turn group turn) (in_turn_on group turn) xs (λ k d lt.
    let next : suc k ≡ k + 1 = omega arith in
    ap (λ n. in_turn group turn (get_or xs k d) (get_or xs n d)) next
    ∙ turned (group (get_or xs (k + 1) d)) (turn (get_or xs (k + 1) d)) (group (get_or xs k d)) (turn (get_or xs k d))
    (up k d (omega arith) (omega arith)))
  where
    turned : (a a' b b' : ℕ) → is_lt (ordering_then (nat_cmp a b) (nat_cmp a' b')) ≡ false
        → (nat_lt b a || (nat_eq b a && nat_le b' a')) ≡ true
    turned a a' b b' h = grind (arith, nat_tests, h)

-- a number that rises wherever elements may stand as they do
pub rising : {X : Type 0} (may : X → X → Bool) (n : X → ℕ) → ((a b : X) → may a b ≡ true → n a ≤ n b) → (xs : List X)
    → stand_by may xs ≡ true → IsNonDecreasingBy n xs
rising may n up xs h i j d le lt = elim (ahead_may may xs h i j d le lt) [
  | inl e ↦ le_of_eq (ap (λ k. n (get_or xs k d)) e)
  | inr e ↦ up (get_or xs i d) (get_or xs j d) e
]

pub groups_rise : {X : Type 0} (group turn : X → ℕ) (xs : List X) → stand_by (in_turn group turn) xs ≡ true
    → IsNonDecreasingBy group xs
groups_rise group turn xs h =
    rising (in_turn group turn) group (λ a b e. less (group a) (turn a) (group b) (turn b) e) xs h
  where
    less : (a a' b b' : ℕ) → (nat_lt a b || (nat_eq a b && nat_le a' b')) ≡ true → a ≤ b
    less a a' b b' h = grind (arith, nat_tests, h)

-- ---- after an edit

-- rows of which none is of the kind make no difference
pub unchanged : {X : Type 0} (kind : Kind) (in_row : Row → Option X)
    → ((r : Row) → is_of kind r ≡ false → in_row r ≡ None)
    → (p : X → Bool) (taken old put new : List Row) (before after : ℕ)
    → nat_eq
    (length (filter (is_of kind) taken) + length (filter (is_of kind) old)
    + (length (filter (is_of kind) put) + length (filter (is_of kind) new)))
    0
    ≡ true
    → before + (count_by (passes_in in_row p) put + count_by (passes_in in_row p) new)
    ≡ after + (count_by (passes_in in_row p) taken + count_by (passes_in in_row p) old)
    → before ≡ after
unchanged kind in_row other p taken old put new before after none balance =
    let sum = eqb-true _ 0 none in
    let a = none_of_kind kind in_row other p taken (omega (arith, sum)) in
    let b = none_of_kind kind in_row other p old (omega (arith, sum)) in
    let c = none_of_kind kind in_row other p put (omega (arith, sum)) in
    let d = none_of_kind kind in_row other p new (omega (arith, sum)) in
    omega (arith, balance, a, b, c, d)

-- ---- lists that are told apart by counts

-- what is above a number is not counted up to it
none_up_to : {X : Type 0} (n : X → ℕ) (t m : ℕ) (xs : List X) → t < m → list_all (λ x. nat_le m (n x)) xs ≡ true
    → count_by (λ x. nat_le (n x) t) xs ≡ 0
none_up_to n t m [] lt h = refl
none_up_to n t m (x ∷ xs) lt h =
    grind (arith, nat_tests, lt, h, none_up_to n t m xs lt, count_next (λ x. nat_le (n x) t) x xs)

-- the order of a number
abbrev pub by : {X : Type 0} → (X → ℕ) → X → X → Bool
by n a b = nat_le (n a) (n b)

-- what comes first is no more than what comes first elsewhere
first_least : {X : Type 0} (n : X → ℕ) (x : X) (xs : List X) (y : X) (ys : List X) → stand_by (by n) (x ∷ xs) ≡ true
    → SameCounts (x ∷ xs) (y ∷ ys) → n x ≤ n y
first_least n x xs y ys h same = elim (cases_Bool (nat_le (n x) (n y))) [
  | inl e ↦ leb-true (n x) (n y) e
  | inr e ↦
      let behind = (and_parts (list_all (by n x) xs) (stand_by (by n) xs) h).0 in
      let none =
      none_up_to n (n y) (n x) (x ∷ xs) (leb-false (n x) (n y) e)
      (and_from _ _ (le-leb (n x) (n x) (omega arith)) behind) in
      absurd (omega (
        arith,
        none,
        count_yes (λ z. nat_le (n z) (n y)) y ys (le-leb (n y) (n y) (omega arith)),
        same (λ z. nat_le (n z) (n y)),
      ))
]

-- two lists by a number, which tells their elements apart, are one where any test counts as many
pub same_list : {X : Type 0} (n : X → ℕ) (q : X → Bool) → ((a b : X) → q a ≡ true → q b ≡ true → n a ≡ n b → a ≡ b)
    → (xs ys : List X)
    → stand_by (by n) xs ≡ true → stand_by (by n) ys ≡ true → list_all q xs ≡ true → list_all q ys ≡ true
    → SameCounts xs ys → xs ≡ ys
same_list n q tells [] [] up up' all all' same = refl
same_list n q tells [] (y ∷ ys) up up' all all' same = absurd (omega (arith, same_length [] (y ∷ ys) same))
same_list n q tells (x ∷ xs) [] up up' all all' same = absurd (omega (arith, same_length (x ∷ xs) [] same))
same_list n q tells (x ∷ xs) (y ∷ ys) up up' all all' same =
    let a = first_least n x xs y ys up same in
    let b = first_least n y ys x xs up' (λ p. sym (same p)) in
    let q1 = and_parts (q x) (list_all q xs) all in
    let q2 = and_parts (q y) (list_all q ys) all' in
    let first : x ≡ y = tells x y q1.0 q2.0 (omega (arith, a, b)) in
    let rest =
    same_list n q tells xs ys (and_parts (list_all (by n x) xs) (stand_by (by n) xs) up).1
    (and_parts (list_all (by n y) ys) (stand_by (by n) ys) up').1 q1.1 q2.1 (behind first) in
    λ i. first i ∷ rest i
  where
    behind : x ≡ y → SameCounts xs ys
    behind first p =
        let here : ◌≡◌ {A = ℕ} (cond (p x) 1 0) (cond (p y) 1 0) = ap (λ z. cond (p z) 1 0) first in
        omega (arith, here, same p, count_next p x xs, count_next p y ys)

-- the entries of a group stand by their turns
pub turns_rise : {X : Type 0} (group turn : X → ℕ) (t : ℕ) (xs : List X) → stand_by (in_turn group turn) xs ≡ true
    → stand_by (by turn) (filter (λ x. nat_eq (group x) t) xs) ≡ true
turns_rise {X} group turn t xs h =
    looser (filter (λ x. nat_eq (group x) t) xs) (stand_by-filter (in_turn group turn) (λ x. nat_eq (group x) t) xs h)
    (all_pass (λ x. nat_eq (group x) t) xs)
  where
    each : (y : X) (zs : List X) → nat_eq (group y) t ≡ true → list_all (in_turn group turn y) zs ≡ true
        → list_all (λ x. nat_eq (group x) t) zs ≡ true → list_all (by turn y) zs ≡ true
    each y [] e h k = refl
    each y (z ∷ zs) e h k = grind (arith, nat_tests, e, h, k, each y zs)

    looser : (zs : List X) → stand_by (in_turn group turn) zs ≡ true → list_all (λ x. nat_eq (group x) t) zs ≡ true
        → stand_by (by turn) zs ≡ true
    looser [] h k = refl
    looser (z ∷ zs) h k = grind (arith, h, k, each z zs, looser zs)

pub rises_by : {X : Type 0} (n : X → ℕ) (xs : List X) → stand_by (by n) xs ≡ true → IsNonDecreasingBy n xs
rises_by n xs h = rising (by n) n (λ a b e. leb-true (n a) (n b) e) xs h

-- ---- one entry more or less

list_all-remove : {X : Type 0} (p : X → Bool) (xs : List X) (i : ℕ) → list_all p xs ≡ true
    → list_all p (remove xs i) ≡ true
list_all-remove p [] zero h = refl
list_all-remove p [] (suc i) h = refl
list_all-remove p (x ∷ xs) zero h = (and_parts (p x) (list_all p xs) h).1
list_all-remove p (x ∷ xs) (suc i) h = grind (arith, h, list_all-remove p xs i)

pub stand_by-remove : {X : Type 0} (may : X → X → Bool) (xs : List X) (i : ℕ) → stand_by may xs ≡ true
    → stand_by may (remove xs i) ≡ true
stand_by-remove may [] zero h = refl
stand_by-remove may [] (suc i) h = refl
stand_by-remove may (x ∷ xs) zero h = (and_parts (list_all (may x) xs) (stand_by may xs) h).1
stand_by-remove may (x ∷ xs) (suc i) h = grind (arith, h, list_all-remove (may x) xs i, stand_by-remove may xs i)

list_all-insert : {X : Type 0} (p : X → Bool) (xs : List X) (i : ℕ) (y : X) → list_all p xs ≡ true → p y ≡ true
    → list_all p (insert xs i y) ≡ true
list_all-insert p [] zero y h e = and_from _ _ e refl
list_all-insert p [] (suc i) y h e = and_from _ _ e refl
list_all-insert p (x ∷ xs) zero y h e = and_from _ _ e h
list_all-insert p (x ∷ xs) (suc i) y h e =
    let both = and_parts (p x) (list_all p xs) h in and_from _ _ both.0 (list_all-insert p xs i y both.1 e)

-- an entry put in behind all that may stand before it, where one may stand before the other
pub stand_by-insert : {X : Type 0} (may : X → X → Bool)
    → ((a b c : X) → may a b ≡ true → may b c ≡ true → may a c ≡ true) → ((a b : X) → may a b ≡ false → may b a ≡ true)
    → (y : X) (xs : List X) (i : ℕ) → stand_by may xs ≡ true → Parts (λ x. may x y) xs i → i ≤ length xs
    → stand_by may (insert xs i y) ≡ true
stand_by-insert may on other y [] zero h parts le = refl
stand_by-insert may on other y [] (suc i) h parts le = absurd (omega (arith, le))
stand_by-insert may on other y (x ∷ xs) zero h parts le =
    let first : may y x ≡ true = other x y (parts.1 zero x (omega arith) (omega arith)) in
    and_from _ _
    (and_from _ _ first (all_behind may on y x xs first (and_parts (list_all (may x) xs) (stand_by may xs) h).0)) h
stand_by-insert may on other y (x ∷ xs) (suc i) h parts le =
    let both = and_parts (list_all (may x) xs) (stand_by may xs) h in
    and_from _ _ (list_all-insert (may x) xs i y both.0 (parts.0 zero x (omega arith) (omega arith)))
    (stand_by-insert may on other y xs i both.1 (later_parts (λ x. may x y) x xs i parts) (omega (arith, le)))

-- those that may stand before an entry come first
pub parted_by : {X : Type 0} (may : X → X → Bool) → ((a b c : X) → may a b ≡ true → may b c ≡ true → may a c ≡ true)
    → (y : X) (xs : List X) → stand_by may xs ≡ true
    → (i j : ℕ) (d : X) → i ≤ j → j < length xs → may (get_or xs j d) y ≡ true → may (get_or xs i d) y ≡ true
parted_by may on y xs h = falling may (λ x. may x y) (λ a b ahead e. on a b y ahead e) xs h

pub in_turn_either : {X : Type 0} (group turn : X → ℕ) (a b : X) → in_turn group turn a b ≡ false
    → in_turn group turn b a ≡ true
in_turn_either group turn a b h = grind (arith, nat_tests, h)

-- those that stand before an entry come first
pub parted_before : {X : Type 0} (may : X → X → Bool) → ((a b c : X) → may a b ≡ true → may b c ≡ true → may a c ≡ true)
    → (y : X) (xs : List X) → stand_by may xs ≡ true
    → (i j : ℕ) (d : X) → i ≤ j → j < length xs → not (may y (get_or xs j d)) ≡ true
    → not (may y (get_or xs i d)) ≡ true
parted_before may on y xs h =
    falling may (λ x. not (may y x)) (λ a b ahead e. turned (may y a) (may y b) (λ first. on y a b first ahead) e) xs h
  where
    turned : (p q : Bool) → (p ≡ true → q ≡ true) → not q ≡ true → not p ≡ true
    turned true q up e = absurd (true_false (sym (up refl) ∙ not-true q e))
    turned false q up e = refl

pub in_turn_itself : {X : Type 0} (group turn : X → ℕ) (x : X) → in_turn group turn x x ≡ true
in_turn_itself group turn x = grind (arith, nat_tests)

-- ---- an entry found

-- all that pass a test stand behind those that pass one which rules it out
pub count_behind : {X : Type 0} (p q : X → Bool) → ((x : X) → p x ≡ true → q x ≡ false) → (xs : List X) (i : ℕ)
    → Parts p xs i → count_by q (drop i xs) ≡ count_by q xs
count_behind p q out xs zero h = refl
count_behind p q out [] (suc i) h = refl
count_behind p q out (x ∷ xs) (suc i) h =
    let rest = count_behind p q out xs i (later_parts p x xs i h) in
    rest ∙ sym (count_no q x xs (out x (h.0 zero x (omega arith) (omega arith))))

-- where one passes, there is a first one at or behind the place
pub some_behind : {X : Type 0} (q : X → Bool) (xs : List X) (i : ℕ) → 1 ≤ count_by q (drop i xs) → i < length xs
some_behind q xs i h = omega (arith, h, count_by-le-length q (drop i xs), length-drop i xs)

pub none_here : {X : Type 0} (q : X → Bool) (xs : List X) (i : ℕ) (d : X) → i < length xs → q (get_or xs i d) ≡ false
    → count_by q (drop (suc i) xs) ≡ count_by q (drop i xs)
none_here q [] i d lt e = absurd (omega (arith, lt))
none_here q (x ∷ xs) zero d lt e = sym (count_no q x xs e)
none_here q (x ∷ xs) (suc i) d lt e = none_here q xs i d (omega (arith, lt)) e

-- an entry is told by its row
pub told_by_row : {X : Type 0} (in_row : Row → Option X) (as_row : X → Row) → ((x : X) → in_row (as_row x) ≡ Some x)
    → (x y : X) → same_row (as_row x) (as_row y) ≡ true → x ≡ y
told_by_row in_row as_row back x y e =
    let same : Some x ≡ Some y = sym (back x) ∙ ap in_row (same_row_is (as_row x) (as_row y) e) ∙ back y in cc

-- what is in the first of these rows is among what is in them
pub first_passes : {X : Type 0} (in_row : Row → Option X) (q : X → Bool) (one : X) (r : Row) (rows all : List Row)
    → all ≡ r ∷ rows → Some one ≡ in_row r → q one ≡ true → 1 ≤ count_by (passes_in in_row q) all
first_passes in_row q one r rows all e has passes =
    let first : passes_in in_row q r ≡ true = ap (passes_if q) (sym has) ∙ passes in
    omega (arith, ap (count_by (passes_in in_row q)) e, count_yes (passes_in in_row q) r rows first)
