-- Lists of rows under tests, and tests joined.
use Rattle.std.specs.Prelude.{◌≡◌, ◌+◌, ◌≤◌, ◌&&◌, ◌||◌, ◌∷◌, ◌⊎◌}
use Rattle.desk_edit.proofs.Words.{ℕ, nat_le, nat_lt, nat_eq, Bool, true, false, not, cond, List, [], map, filter}
use Rattle.desk_edit.proofs.Words.{length, count_by, find, refl, sym, ap, ◌∙◌, arith, eqb-true, list_any, list_all}
use Rattle.desk_edit.proofs.Words.{and-true, and-false, and_parts, or_left, or_right, not-true, false_from_ne_true}
use Rattle.desk_edit.proofs.Words.{nil_from_length, list_any-append, count_by-le-length, length-filter, Row, MemberRow}
use Rattle.desk_edit.proofs.Words.{names, is_in_range, is_in, Desk, good, rows_of, are_together, all_suit}
use Rattle.desk_edit.proofs.Words.{has_few_audio, obeys, row_itself, at_each, is_in-filter, count_next, good_parts}
use Rattle.desk_edit.proofs.Words.{any_counts, is_in-append, true_false, witness, any_count, no_count, count_some}
use Rattle.desk_edit.proofs.Words.{list_any-map, rows_count, all_pass, count_by-filter, found_list}
use Rattle.desk_rows.specs.declared.row.Row.TheVariants as rows

-- ---- tests

pub and_first : (a b : Bool) → (a ≡ true → b ≡ true) → (a && b) ≡ a
and_first true b h = h refl
and_first false b h = refl

pub and_second : (a b : Bool) → (b ≡ true → a ≡ true) → (a && b) ≡ b
and_second a true h = and-true a ∙ h refl
and_second a false h = and-false a

pub turned : (m n : ℕ) → nat_eq m n ≡ nat_eq n m
turned m n = grind arith

pub at_most : (m n : ℕ) → nat_le m n ≡ true → m ≤ n
at_most m n h = grind (arith, h)

pub most : (m n : ℕ) → m ≤ n → nat_le m n ≡ true
most m n h = grind (arith, h)

-- a test counts one row by 1 or by 0
pub one_yes : (b : Bool) → b ≡ true → ◌≡◌ {A = ℕ} (cond b 1 0) 1
one_yes b e = ap (λ b. cond b 1 0) e

pub one_no : (b : Bool) → b ≡ false → ◌≡◌ {A = ℕ} (cond b 1 0) 0
one_no b e = ap (λ b. cond b 1 0) e

pub nothing : {X : Type 0} (xs : List X) (n : ℕ) → length xs ≡ n → nat_eq n 0 ≡ true → xs ≡ []
nothing xs n is h = nil_from_length xs (is ∙ eqb-true n 0 h)

-- what follows of two tests for each holds of all
pub all_both : {X : Type 0} (p q t : X → Bool) → ((x : X) → p x ≡ true → q x ≡ true → t x ≡ true) → (xs : List X)
    → list_all p xs ≡ true → list_all q xs ≡ true → list_all t xs ≡ true
all_both p q t each [] h k = refl
all_both p q t each (x ∷ xs) h k =
    let rest = all_both p q t each xs in let here = each x in grind (arith, rest, here, h, k)

-- what did not pass is left
pub all_left : {X : Type 0} (p t : X → Bool) → ((x : X) → p x ≡ false → t x ≡ true) → (xs : List X)
    → list_all t (filter (λ x. not (p x)) xs) ≡ true
all_left p t each xs =
    let left = all_pass (λ x. not (p x)) xs in
    all_both (λ x. not (p x)) (λ x. not (p x)) t (λ x a b. each x (not-true (p x) a)) (filter (λ x. not (p x)) xs) left
    left

pub none_all : {X : Type 0} (p : X → Bool) (xs : List X) → list_any p xs ≡ false → list_all (λ x. not (p x)) xs ≡ true
none_all p [] h = refl
none_all p (x ∷ xs) h = let rest = none_all p xs in grind (arith, rest, h)

-- ---- rows that pass, and rows that are left

pub row_some : (p : Row → Bool) (xs : List Row) (x : Row) → is_in xs x ≡ true → p x ≡ true → list_any p xs ≡ true
row_some p xs x one own = count_some p xs (any_counts p xs x one own)

pub any_none : (p : Row → Bool) (xs : List Row) → ((x : Row) → is_in xs x ≡ true → p x ≡ false) → list_any p xs ≡ false
any_none p xs each =
    false_from_ne_true (list_any p xs) (λ e. let w = witness p xs e in true_false (sym w.2 ∙ each w.0 w.1))

pub in_filter : (p : Row → Bool) (xs : List Row) (x : Row) → is_in (filter p xs) x ≡ true
    → (is_in xs x ≡ true) × (p x ≡ true)
in_filter p xs x one = and_parts (is_in xs x) (p x) (sym (is_in-filter p x xs) ∙ one)

pub filter_none : (p : Row → Bool) (xs : List Row) → list_any p xs ≡ false → filter p xs ≡ []
filter_none p xs h = nil_from_length (filter p xs) (length-filter p xs ∙ no_count p xs h)

pub filter_alike : (p q : Row → Bool) (xs : List Row) → ((x : Row) → is_in xs x ≡ true → p x ≡ q x)
    → filter p xs ≡ filter q xs
filter_alike p q [] each = refl
filter_alike p q (x ∷ xs) each =
    let rest = filter_alike p q xs (λ y one. each y (or_right _ _ one)) in
    let here = each x (or_left _ _ (row_itself x)) in cc

pub count_alike : (p q : Row → Bool) (xs : List Row) → ((x : Row) → is_in xs x ≡ true → p x ≡ q x)
    → count_by p xs ≡ count_by q xs
count_alike p q xs each = sym (length-filter p xs) ∙ ap length (filter_alike p q xs each) ∙ length-filter q xs

pub any_alike : (p q : Row → Bool) (xs : List Row) → ((x : Row) → is_in xs x ≡ true → p x ≡ q x)
    → list_any p xs ≡ list_any q xs
any_alike p q xs each = any_count p xs ∙ ap (nat_lt 0) (count_alike p q xs each) ∙ sym (any_count q xs)

filter_filter : (p q : Row → Bool) (xs : List Row) → filter p (filter q xs) ≡ filter (λ x. q x && p x) xs
filter_filter p q [] = refl
filter_filter p q (x ∷ xs) = let rest = filter_filter p q xs in grind (arith, rest)

pub any_filter : (p q : Row → Bool) (xs : List Row) → list_any p (filter q xs) ≡ list_any (λ x. q x && p x) xs
any_filter p q xs =
    any_count p (filter q xs) ∙ ap (nat_lt 0) (count_by-filter p q xs) ∙ sym (any_count (λ x. q x && p x) xs)

-- what passes one test passes the other, which need not be asked
pub filter_wider : (p q : Row → Bool) (xs : List Row) → ((x : Row) → is_in xs x ≡ true → p x ≡ true → q x ≡ true)
    → filter p (filter q xs) ≡ filter p xs
filter_wider p q xs each =
    filter_filter p q xs ∙ filter_alike (λ x. q x && p x) p xs (λ x one. and_second (q x) (p x) (each x one))

pub count_wider : (p q : Row → Bool) (xs : List Row) → ((x : Row) → p x ≡ true → q x ≡ true)
    → count_by p (filter q xs) ≡ count_by p xs
count_wider p q xs each =
    sym (length-filter p (filter q xs)) ∙ ap length (filter_wider p q xs (λ x one. each x)) ∙ length-filter p xs

pub any_wider : (p q : Row → Bool) (xs : List Row) → ((x : Row) → p x ≡ true → q x ≡ true)
    → list_any p (filter q xs) ≡ list_any p xs
any_wider p q xs each = any_count p (filter q xs) ∙ ap (nat_lt 0) (count_wider p q xs each) ∙ sym (any_count p xs)

-- so it counts no less
pub fewer_pass : (p q : Row → Bool) (xs : List Row) → ((x : Row) → p x ≡ true → q x ≡ true)
    → count_by p xs ≤ count_by q xs
fewer_pass p q xs each = omega (arith, count_wider p q xs each, count_by-le-length p (filter q xs), length-filter q xs)

pub count_filter : (p t : Row → Bool) (xs : List Row) → count_by p (filter t xs) ≤ count_by p xs
count_filter p t xs =
    omega (arith, count_by-filter p t xs, fewer_pass (λ x. t x && p x) p xs (λ x h. (and_parts (t x) (p x) h).1))

-- what passes passes one of two
pub two_pass : (p a b : Row → Bool) (xs : List Row) → ((x : Row) → p x ≡ true → (a x ≡ true) ⊎ (b x ≡ true))
    → count_by p xs ≤ count_by a xs + count_by b xs
two_pass p a b [] each = omega arith
two_pass p a b (x ∷ xs) each =
    let rest = two_pass p a b xs each in
    let here = each x in
    grind (arith, rest, here, count_next p x xs, count_next a x xs, count_next b x xs)

pub filter_found : (p : Row → Bool) (xs : List Row) → count_by p xs ≤ 1 → filter p xs ≡ found_list (find p xs)
filter_found p [] few = refl
filter_found p (x ∷ xs) few =
    let rest = filter_found p xs in
    grind (arith, rest, few, nil_from_length (filter p xs), count_next p x xs, length-filter p xs)

-- ---- rows of a good desk

pub other_in : (d : Desk) (x : Row) → is_in d.others x ≡ true → is_in (rows_of d) x ≡ true
other_in d x one = is_in-append (map rows.Member d.members) d.others x ∙ or_right _ _ one

-- what a row's rule says
pub obeyed : (d : Desk) → good d ≡ true → (x : Row) → is_in (rows_of d) x ≡ true
    → (is_in_range x ≡ true) × (has_few_audio d x ≡ true) × (all_suit d x ≡ true) × (are_together d (names x) ≡ true)
obeyed d g x one =
    let all =
    and_parts (is_in_range x && has_few_audio d x) (all_suit d x && are_together d (names x))
    (at_each (obeys d) (rows_of d) x (good_parts d g).obey one) in
    let first = and_parts (is_in_range x) (has_few_audio d x) all.0 in
    let second = and_parts (all_suit d x) (are_together d (names x)) all.1 in
    (first.0, first.1, second.0, second.1)

-- ---- what no member is, is among the other rows

pub any_other : (d : Desk) (p : Row → Bool) → ((m : MemberRow) → p (rows.Member m) ≡ false)
    → list_any p (rows_of d) ≡ list_any p d.others
any_other d p none =
    list_any-append p (map rows.Member d.members) d.others
    ∙ ap (λ b. b || list_any p d.others) (list_any-map rows.Member p d.members ∙ no_member d.members) where
      no_member : (ms : List MemberRow) → list_any (λ m. p (rows.Member m)) ms ≡ false
      no_member [] = refl
      no_member (m ∷ ms) = (λ i. none m i || no_member ms i)

pub count_other : (d : Desk) (p : Row → Bool) → ((m : MemberRow) → p (rows.Member m) ≡ false)
    → count_by p (rows_of d) ≡ count_by p d.others
count_other d p none =
    let all = rows_count p d in let members = no_member d.members in omega (arith, all, members) where
      no_member : (ms : List MemberRow) → count_by (λ m. p (rows.Member m)) ms ≡ 0
      no_member [] = refl
      no_member (m ∷ ms) =
          let rest = no_member ms in
          omega (arith, rest, count_next (λ m. p (rows.Member m)) m ms, one_no (p (rows.Member m)) (none m))

pub found_filter : (p t : Row → Bool) (xs : List Row) → ((x : Row) → p x ≡ true → t x ≡ true)
    → find p (filter t xs) ≡ find p xs
found_filter p t [] each = refl
found_filter p t (x ∷ xs) each = let rest = found_filter p t xs each in let here = each x in grind (arith, rest, here)
