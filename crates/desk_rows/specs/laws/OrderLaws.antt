-- Rows taken out of rows in order and put back make the same rows.
use Rattle.std.specs.Prelude.{◌≡◌, ◌||◌, ◌∷◌, ◌++◌, ◌+◌, ◌&&◌}
use Rattle.desk_rows.specs.laws.Words.{Bool, true, false, cond, List, [], length, refl, sym, ap, ◌∙◌, arith, not, inl}
use Rattle.desk_rows.specs.laws.Words.{inr, filter, length-append, or_left, or_right, and_parts, and_from, cases_Bool}
use Rattle.desk_rows.specs.laws.Words.{false_from_ne_true, list_any-append, list_all-append, list_any, list_all}
use Rattle.desk_rows.specs.laws.Words.{count_by, Key, Row, is_in, with_rows, in_order, without_rows, precedes, with_row}
use Rattle.desk_rows.specs.laws.Words.{key_is_new, are_apart, have_same_keys, same_row, key_of, same_key, stand_by}
use Rattle.desk_rows.specs.laws.Equal.{same_key_is, key_itself, keys_precede_on, not_before_itself, same_row_is}
use Rattle.desk_rows.specs.laws.Equal.{row_itself}
use Rattle.desk_rows.specs.laws.ListLaws.{true_false, SameCounts, count_next, count_by-append, same_any, same_all}
use Rattle.desk_rows.specs.laws.ListLaws.{same_length, stand_by-filter}
pub use Rattle.desk_rows.specs.laws.ListLaws.{both_ways, filter_all}

-- ---- tests

pub same_row_turned : (a b : Row) → same_row a b ≡ same_row b a
same_row_turned a b = both_ways _ _
    (λ e. ap (λ x. same_row x a) (sym (same_row_is a b e)) ∙ row_itself a)
    (λ e. ap (λ x. same_row x b) (sym (same_row_is b a e)) ∙ row_itself b)

pub precedes_on : (a b c : Row) → precedes a b ≡ true → precedes b c ≡ true → precedes a c ≡ true
precedes_on a b c e f = keys_precede_on (key_of a) (key_of b) (key_of c) e f

pub one_way : (a b : Row) → precedes a b ≡ true → precedes b a ≡ false
one_way a b e = false_from_ne_true _ (λ f. true_false (sym (precedes_on a b a e f) ∙ not_before_itself a))

-- a row that stands before another is not the other
pub before_other : (a b : Row) → precedes a b ≡ true → same_row a b ≡ false
before_other a b e =
    false_from_ne_true _ (λ s. true_false (sym e ∙ ap (precedes a) (sym (same_row_is a b s)) ∙ not_before_itself a))

-- ---- lists

pub at_each : (p : Row → Bool) (rs : List Row) (q : Row) → list_all p rs ≡ true → is_in rs q ≡ true → p q ≡ true
at_each p [] q all one = absurd (true_false (sym one))
at_each p (r ∷ rs) q all one = grind (arith, all, one, same_row_is q r, at_each p rs q)

pub from_each : (p : Row → Bool) (rs : List Row) → ((q : Row) → is_in rs q ≡ true → p q ≡ true) → list_all p rs ≡ true
from_each p [] each = refl
from_each p (r ∷ rs) each =
    and_from _ _ (each r (or_left _ _ (row_itself r))) (from_each p rs (λ q e. each q (or_right _ _ e)))

-- what all rows behind a row are not, is not among them
pub none_before : (r : Row) (xs : List Row) → list_all (precedes r) xs ≡ true → is_in xs r ≡ false
none_before r xs h = false_from_ne_true _ (λ e. true_false (sym (at_each (precedes r) xs r h e) ∙ not_before_itself r))

-- to be in order is to stand by what precedes
pub order_stands : (xs : List Row) → in_order xs ≡ stand_by precedes xs
order_stands [] = refl
order_stands (x ∷ xs) = ap (λ b. list_all (precedes x) xs && b) (order_stands xs)

pub in_order-filter : (q : Row → Bool) (xs : List Row) → in_order xs ≡ true → in_order (filter q xs) ≡ true
in_order-filter q xs h = order_stands (filter q xs) ∙ stand_by-filter precedes q xs (sym (order_stands xs) ∙ h)

-- ---- one row more

with_row_counts : (r : Row) (xs : List Row) → SameCounts (with_row r xs) (r ∷ xs)
with_row_counts r [] p = refl
with_row_counts r (x ∷ xs) p =
    grind (
      arith,
      with_row_counts r xs p,
      count_next p x (with_row r xs),
      count_next p r (x ∷ xs),
      count_next p x xs,
      count_next p r xs,
    )

pub list_all-with_row : (p : Row → Bool) (r : Row) (xs : List Row) → list_all p (with_row r xs) ≡ (p r && list_all p xs)
list_all-with_row p r xs = same_all p (with_row r xs) (r ∷ xs) (with_row_counts r xs)

pub filter-with_row : (q : Row → Bool) (r : Row) (xs : List Row) → q r ≡ false → filter q (with_row r xs) ≡ filter q xs
filter-with_row q r [] h = grind (arith, h)
filter-with_row q r (x ∷ xs) h = grind (arith, h, filter-with_row q r xs)

pub in_order-with_row : (r : Row) (xs : List Row) → in_order xs ≡ true → key_is_new r xs ≡ true
    → in_order (with_row r xs) ≡ true
in_order-with_row r [] h new = refl
in_order-with_row r (x ∷ xs) h new =
    let both = and_parts (list_all (precedes x) xs) (in_order xs) h in
    let news = and_parts (precedes r x || precedes x r) (key_is_new r xs) new in
    elim (cases_Bool (precedes r x)) [
      | inl e ↦
          let behind =
          from_each (precedes r) xs (λ q one. precedes_on r x q e (at_each (precedes x) xs q both.0 one)) in
          ap (λ b. in_order (cond b (r ∷ x ∷ xs) (x ∷ with_row r xs))) e ∙ and_from _ _ (and_from _ _ e behind) h
      | inr e ↦
          let first = sym (ap (λ b. b || precedes x r) e) ∙ news.0 in
          ap (λ b. in_order (cond b (r ∷ x ∷ xs) (x ∷ with_row r xs))) e
          ∙ and_from _ _ (list_all-with_row (precedes x) r xs ∙ and_from _ _ first both.0)
          (in_order-with_row r xs both.1 news.1)
    ]

-- rows whose keys are new keep the order
pub with_rows_in_order : (rs xs : List Row) → in_order xs ≡ true → in_order rs ≡ true
    → list_all (λ r. key_is_new r xs) rs ≡ true → in_order (with_rows rs xs) ≡ true
with_rows_in_order [] xs h k new = h
with_rows_in_order (r ∷ rs) xs h k new =
    let order = and_parts (list_all (precedes r) rs) (in_order rs) k in
    let news = and_parts (key_is_new r xs) (list_all (λ q. key_is_new q xs) rs) new in
    with_rows_in_order rs (with_row r xs) (in_order-with_row r xs h news.0) order.1
    (from_each (λ q. key_is_new q (with_row r xs)) rs (λ q one.
    list_all-with_row (λ x. precedes q x || precedes x q) r xs
    ∙ and_from _ _ (or_right _ _ (at_each (precedes r) rs q order.0 one))
    (at_each (λ q. key_is_new q xs) rs q news.1 one)))

-- lists that are apart make one list in order
pub apart_in_order : (xs ys : List Row) → are_apart xs ys ≡ true → in_order (with_rows ys xs) ≡ true
apart_in_order xs ys h =
    let both = and_parts (in_order xs && in_order ys) (list_all (λ y. key_is_new y xs) ys) h in
    let orders = and_parts (in_order xs) (in_order ys) both.0 in
    with_rows_in_order ys xs orders.0 orders.1 both.1

pub same_key_turned : (a b : Key) → same_key a b ≡ true → same_key b a ≡ true
same_key_turned a b h = ap (λ k. same_key k a) (sym (same_key_is a b h)) ∙ key_itself a

pub same_keys_turned : (xs ys : List Row) → have_same_keys xs ys ≡ true → have_same_keys ys xs ≡ true
same_keys_turned [] [] h = refl
same_keys_turned (x ∷ xs) (y ∷ ys) h = grind (arith, h, same_key_turned (key_of x) (key_of y), same_keys_turned xs ys)
same_keys_turned _ _ h = cc

-- ---- several rows more, several less

filter_twice : (a b : Row → Bool) (xs : List Row)
    → filter (λ x. not (a x || b x)) xs ≡ filter (λ x. not (a x)) (filter (λ x. not (b x)) xs)
filter_twice a b [] = refl
filter_twice a b (x ∷ xs) = grind (arith, filter_twice a b xs)

-- where all that pass one test answer another alike
any-filter : (one p : Row → Bool) (b : Bool) → ((r : Row) → one r ≡ true → p r ≡ b) → (rs : List Row)
    → list_any one (filter p rs) ≡ (list_any one rs && b)
any-filter one p b alike [] = refl
any-filter one p b alike (r ∷ rs) = grind (arith, alike r, any-filter one p b alike rs)

pub is_in-filter : (p : Row → Bool) (q : Row) (rs : List Row) → is_in (filter p rs) q ≡ (is_in rs q && p q)
is_in-filter p q rs = any-filter (same_row q) p (p q) (λ r same. ap p (sym (same_row_is q r same))) rs

pub is_in-without_rows : (rs xs : List Row) (q : Row) → is_in (without_rows rs xs) q ≡ (is_in xs q && not (is_in rs q))
is_in-without_rows rs xs q = is_in-filter (λ x. not (is_in rs x)) q xs

with_rows_counts : (rs xs : List Row) → SameCounts (with_rows rs xs) (rs ++ xs)
with_rows_counts [] xs p = refl
with_rows_counts (r ∷ rs) xs p =
    let rest = with_rows_counts rs (with_row r xs) p in
    omega (
      arith,
      rest,
      with_row_counts r xs p,
      count_by-append p rs (with_row r xs),
      count_by-append p rs xs,
      count_next p r xs,
      count_next p r (rs ++ xs),
    )

pub count_by-with_rows : (p : Row → Bool) (rs xs : List Row)
    → count_by p (with_rows rs xs) ≡ count_by p rs + count_by p xs
count_by-with_rows p rs xs = with_rows_counts rs xs p ∙ count_by-append p rs xs

pub length-with_rows : (rs xs : List Row) → length (with_rows rs xs) ≡ length xs + length rs
length-with_rows rs xs =
    omega (arith, same_length (with_rows rs xs) (rs ++ xs) (with_rows_counts rs xs), length-append rs xs)

pub list_all-with_rows : (p : Row → Bool) (rs xs : List Row)
    → list_all p (with_rows rs xs) ≡ (list_all p rs && list_all p xs)
list_all-with_rows p rs xs = same_all p (with_rows rs xs) (rs ++ xs) (with_rows_counts rs xs) ∙ list_all-append p rs xs

pub list_any-with_rows : (p : Row → Bool) (rs xs : List Row)
    → list_any p (with_rows rs xs) ≡ (list_any p rs || list_any p xs)
list_any-with_rows p rs xs = same_any p (with_rows rs xs) (rs ++ xs) (with_rows_counts rs xs) ∙ list_any-append p rs xs

pub is_in-with_rows : (rs xs : List Row) (q : Row) → is_in (with_rows rs xs) q ≡ (is_in rs q || is_in xs q)
is_in-with_rows rs xs q = list_any-with_rows (same_row q) rs xs

-- put in and taken out again
pub without_rows-with_rows : (rs xs : List Row) → list_all (λ x. not (is_in rs x)) xs ≡ true
    → without_rows rs (with_rows rs xs) ≡ xs
without_rows-with_rows rs xs h = passed rs xs (λ q one. one) ∙ filter_all (λ x. not (is_in rs x)) xs h where
  passed : (ts ys : List Row) → ((q : Row) → is_in ts q ≡ true → is_in rs q ≡ true)
      → filter (λ x. not (is_in rs x)) (with_rows ts ys) ≡ filter (λ x. not (is_in rs x)) ys
  passed [] ys each = refl
  passed (t ∷ ts) ys each =
      passed ts (with_row t ys) (λ q one. each q (or_right _ _ one))
      ∙ filter-with_row (λ x. not (is_in rs x)) t ys (ap not (each t (or_left _ _ (row_itself t))))

-- a row in front of all behind it
pub in_front : (r : Row) (xs : List Row) → list_all (precedes r) xs ≡ true → with_row r xs ≡ r ∷ xs
in_front r [] h = refl
in_front r (x ∷ xs) h =
    ap (λ b. cond b (r ∷ x ∷ xs) (x ∷ with_row r xs)) (and_parts (precedes r x) (list_all (precedes r) xs) h).0

-- a row taken out of rows in order and put back
with_row-without : (r : Row) (xs : List Row) → in_order xs ≡ true → is_in xs r ≡ true
    → with_row r (filter (λ x. not (same_row x r)) xs) ≡ xs
with_row-without r [] h one = absurd (true_false (sym one))
with_row-without r (x ∷ xs) h one =
    let both = and_parts (list_all (precedes x) xs) (in_order xs) h in
    let left = filter (λ y. not (same_row y r)) xs in
    elim (cases_Bool (same_row r x)) [
      | inl e ↦
          let is : r ≡ x = same_row_is r x e in
          let apart : list_all (λ y. not (same_row y r)) xs ≡ true =
          from_each (λ y. not (same_row y r)) xs (λ q one.
          ap not (same_row_turned q r
          ∙ ap (λ z. same_row z q) is
          ∙ before_other x q (at_each (precedes x) xs q both.0 one))) in
          ap (λ b. with_row r (cond (not b) (x ∷ left) left)) (same_row_turned x r ∙ e)
          ∙ ap (with_row r) (filter_all (λ y. not (same_row y r)) xs apart)
          ∙ in_front r xs (ap (λ z. list_all (precedes z) xs) is ∙ both.0) ∙ ap (λ z. z ∷ xs) is
      | inr e ↦
          let rest : is_in xs r ≡ true = sym (ap (λ b. b || is_in xs r) e) ∙ one in
          ap (λ b. with_row r (cond (not b) (x ∷ left) left)) (same_row_turned x r ∙ e)
          ∙ ap (λ b. cond b (r ∷ x ∷ left) (x ∷ with_row r left)) (one_way x r (at_each (precedes x) xs r both.0 rest))
          ∙ ap (λ ys. x ∷ ys) (with_row-without r xs both.1 rest)
    ]

-- taken out and put in again
pub with_rows-without_rows : (rs xs : List Row) → in_order xs ≡ true → in_order rs ≡ true
    → list_all (is_in xs) rs ≡ true → with_rows rs (without_rows rs xs) ≡ xs
with_rows-without_rows [] xs h k there = filter_all (λ x. true) xs (from_each (λ x. true) xs (λ q one. refl))
with_rows-without_rows (r ∷ rs) xs h k there =
    let order = and_parts (list_all (precedes r) rs) (in_order rs) k in
    let all = and_parts (is_in xs r) (list_all (is_in xs) rs) there in
    let left : is_in (without_rows rs xs) r ≡ true =
    is_in-without_rows rs xs r ∙ and_from _ _ all.0 (ap not (none_before r rs order.0)) in
    ap (λ ys. with_rows rs (with_row r ys)) (filter_twice (λ x. same_row x r) (is_in rs) xs)
    ∙ ap (with_rows rs) (with_row-without r (without_rows rs xs) (in_order-filter (λ x. not (is_in rs x)) xs h) left)
    ∙ with_rows-without_rows rs xs h order.1 all.1

pub count_by-without_rows : (p : Row → Bool) (rs xs : List Row) → in_order xs ≡ true → in_order rs ≡ true
    → list_all (is_in xs) rs ≡ true →
    count_by p (without_rows rs xs) + count_by p rs ≡ count_by p xs
count_by-without_rows p rs xs h k there =
    let back = ap (count_by p) (with_rows-without_rows rs xs h k there) in
    omega (arith, back, count_by-with_rows p rs (without_rows rs xs))
