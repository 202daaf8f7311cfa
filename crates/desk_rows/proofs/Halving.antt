-- What halving finds among elements whose numbers do not fall.
use Rattle.std.specs.Prelude.{◌≡◌, ◌<◌, ◌≤◌, ◌||◌, ◌∷◌}
use Rattle.desk_rows.specs.laws.Words.{ℕ, zero, suc, Bool, true, false, cond, List, [], length, get_or, nat_lt, None}
use Rattle.desk_rows.specs.laws.Words.{Some, refl, sym, ap, ◌∙◌, arith, nat_eq, not, inl, inr, filter, take, drop}
use Rattle.desk_rows.specs.laws.Words.{nat_le, and_parts, and_from, false_from_ne_true, cases_lt, nat_tests, find}
use Rattle.desk_rows.specs.laws.Words.{list_all, is_some, Key, Kind, Row, is_of, numbers_precede, same_numbers, is_in}
use Rattle.desk_rows.specs.laws.Words.{in_order, precedes, key_precedes, same_row, has_key, rank, kind_of, own_numbers}
use Rattle.desk_rows.specs.laws.Words.{key_numbers, key_of, Parts}
use Rattle.desk_rows.specs.laws.Equal.{key_itself, keys_precede_on, not_before_itself, three_numbers, same_row_is}
use Rattle.desk_rows.specs.laws.Equal.{row_itself}
use Rattle.desk_rows.specs.laws.Laws.{any_counts}
use Rattle.desk_rows.specs.laws.ListLaws.{true_false, both_ways, count_some, is_found, found_nothing, found_at}
use Rattle.desk_rows.specs.laws.ListLaws.{none_there, each_at, ahead_may, falling}
use Rattle.desk_rows.specs.laws.NumberLaws.{same_numbers_is, numbers_not_before, one_list_precedes, first_rises}
use Rattle.desk_rows.specs.laws.OrderLaws.{one_way, order_stands}
use Rattle.desk_rows.proofs.Finding.{found_one, found_there, order_once}

-- ---- elements told apart by their numbers

pub later_parts : {A : Type 0} (p : A → Bool) (x : A) (xs : List A) (i : ℕ) → Parts p (x ∷ xs) (suc i) → Parts p xs i
later_parts p x xs i h =
    (λ k d a b. h.0 (suc k) d (omega arith) (omega arith), λ k d a b. h.1 (suc k) d (omega arith) (omega arith))

-- no element stands before one ahead of it
abbrev pub Rises : {A : Type 0} (f : A → List ℕ) (xs : List A) → Type 0
Rises {A} f xs =
    (i j : ℕ) (d : A) → i ≤ j → j < length xs → numbers_precede (f (get_or xs j d)) (f (get_or xs i d)) ≡ false

before_is_other : (xs ys : List ℕ) → numbers_precede xs ys ≡ true → same_numbers xs ys ≡ false
before_is_other xs ys e =
    false_from_ne_true _ (λ f.
    true_false (sym (ap (λ zs. numbers_precede zs ys) (sym (same_numbers_is xs ys f)) ∙ e) ∙ numbers_not_before ys))

-- the element at the place, where it has these numbers
pub found_here : {A : Type 0} (f : A → List ℕ) (k : List ℕ) (xs : List A) (i : ℕ) (d : A)
    → Parts (λ x. numbers_precede (f x) k) xs i → i < length xs → same_numbers (f (get_or xs i d)) k ≡ true →
    find (λ x. same_numbers (f x) k) xs ≡ Some (get_or xs i d)
found_here f k xs i d parts l e =
    found_at (λ x. same_numbers (f x) k) xs i d
    (λ m lt. before_is_other (f (get_or xs m d)) k (parts.0 m d (omega arith) lt)) l e

-- and else none
pub found_none : {A : Type 0} (f : A → List ℕ) (k : List ℕ) (xs : List A) (i : ℕ) (d : A) → Rises f xs
    → ((x : A) → length (f x) ≡ length k) → Parts (λ x. numbers_precede (f x) k) xs i →
    (i < length xs → same_numbers (f (get_or xs i d)) k ≡ false) → find (λ x. same_numbers (f x) k) xs ≡ None
found_none f k xs i d rises long parts e =
    found_nothing (λ x. same_numbers (f x) k) xs
    (none_there (λ x. same_numbers (f x) k) xs d (λ m lt. false_from_ne_true _ (λ s. elim (cases_lt m i) [
      | inl h ↦ true_false (sym s ∙ before_is_other (f (get_or xs m d)) k (parts.0 m d (omega arith) h))
      | inr h ↦
          let inside : i < length xs = omega arith in
          let ahead =
          ap (λ b. b || numbers_precede k (f (get_or xs i d))) (sym (parts.1 i d (omega arith) inside))
          ∙ one_list_precedes (f (get_or xs i d)) k (long (get_or xs i d)) (e inside) in
          true_false (sym
          (ap (λ ys. numbers_precede ys (f (get_or xs i d))) (same_numbers_is (f (get_or xs m d)) k s) ∙ ahead)
          ∙ rises i m d h lt)
    ])))

-- ---- rows in order, by key

-- a test that holds of a row where it holds of one behind it
pub parted : (p : Row → Bool) → ((a b : Row) → precedes a b ≡ true → p b ≡ true → p a ≡ true) → (xs : List Row)
    → in_order xs ≡ true →
    (i j : ℕ) (d : Row) → i ≤ j → j < length xs → p (get_or xs j d) ≡ true → p (get_or xs i d) ≡ true
parted p falls xs h = falling precedes p falls xs (sym (order_stands xs) ∙ h)

pub key_falls : (key : Key) (a b : Row) → precedes a b ≡ true → key_precedes (key_of b) key ≡ true
    → key_precedes (key_of a) key ≡ true
key_falls key a b e f = keys_precede_on (key_of a) (key_of b) key e f

rows_rise : (xs : List Row) → in_order xs ≡ true → Rises (λ x. key_numbers (key_of x)) xs
rows_rise xs h i j d le lt = elim (ahead_may precedes xs (sym (order_stands xs) ∙ h) i j d le lt) [
  | inl e ↦ ap (λ k. precedes (get_or xs j d) (get_or xs k d)) e ∙ not_before_itself (get_or xs j d)
  | inr e ↦ one_way (get_or xs i d) (get_or xs j d) e
]

pub row_here : (key : Key) (xs : List Row) (i : ℕ) (d : Row) → Parts (λ x. key_precedes (key_of x) key) xs i
    → i < length xs → has_key key (get_or xs i d) ≡ true → find (has_key key) xs ≡ Some (get_or xs i d)
row_here key xs i d parts l e = found_here (λ x. key_numbers (key_of x)) (key_numbers key) xs i d parts l e

pub row_none : (key : Key) (xs : List Row) (i : ℕ) (d : Row) → in_order xs ≡ true
    → Parts (λ x. key_precedes (key_of x) key) xs i → (i < length xs → has_key key (get_or xs i d) ≡ false)
    → find (has_key key) xs ≡ None
row_none key xs i d h parts e =
    found_none (λ x. key_numbers (key_of x)) (key_numbers key) xs i d (rows_rise xs h)
    (λ x. three_numbers (key_of x) ∙ sym (three_numbers key)) parts e

-- a row is among others in order where the row of its key is the same
pub among_none : (xs : List Row) (q : Row) → find (has_key (key_of q)) xs ≡ None → is_in xs q ≡ false
among_none xs q h = false_from_ne_true _ (λ one.
    true_false (sym
    (count_some (has_key (key_of q)) xs (any_counts (has_key (key_of q)) xs q one (key_itself (key_of q))))
    ∙ is_found (has_key (key_of q)) xs
    ∙ ap is_some h))

pub among_found : (xs : List Row) (q r : Row) → in_order xs ≡ true → find (has_key (key_of q)) xs ≡ Some r
    → same_row q r ≡ is_in xs q
among_found xs q r h e =
    both_ways _ _ (λ s. ap (is_in xs) (same_row_is q r s) ∙ (found_there (has_key (key_of q)) xs r e).0) (λ one.
    let found : Some q ≡ Some r =
    sym (found_one (has_key (key_of q)) xs q (order_once (key_of q) xs h) one (key_itself (key_of q))) ∙ e in
    let same : q ≡ r = cc in
    ap (same_row q) (sym same) ∙ row_itself q)

-- ---- by kind

pub below_falls : (n : ℕ) (a b : Row) → precedes a b ≡ true → nat_lt (rank (kind_of (key_of b))) n ≡ true
    → nat_lt (rank (kind_of (key_of a))) n ≡ true
below_falls n a b e f =
    let up =
    first_rises (rank (kind_of (key_of a))) (rank (kind_of (key_of b))) (own_numbers (key_of a))
    (own_numbers (key_of b)) e in
    grind (arith, nat_tests, up, f)

pub within_falls : (n : ℕ) (a b : Row) → precedes a b ≡ true → nat_le (rank (kind_of (key_of b))) n ≡ true
    → nat_le (rank (kind_of (key_of a))) n ≡ true
within_falls n a b e f =
    let up =
    first_rises (rank (kind_of (key_of a))) (rank (kind_of (key_of b))) (own_numbers (key_of a))
    (own_numbers (key_of b)) e in
    grind (arith, nat_tests, up, f)

pub order_of_rest : (i : ℕ) (xs : List Row) → in_order xs ≡ true → in_order (drop i xs) ≡ true
order_of_rest zero xs h = h
order_of_rest (suc i) [] h = refl
order_of_rest (suc i) (x ∷ xs) h = order_of_rest i xs (and_parts (list_all (precedes x) xs) (in_order xs) h).1

pub rest_fails : {X : Type 0} (p : X → Bool) (xs : List X) (i : ℕ) → Parts p xs i
    → list_all (λ x. not (p x)) (drop i xs) ≡ true
rest_fails p [] zero h = refl
rest_fails p [] (suc i) h = refl
rest_fails p (x ∷ xs) zero h =
    and_from _ _ (ap not (h.1 zero x (omega arith) (omega arith)))
    (rest_fails p xs zero (λ k d a b. absurd (omega arith), λ k d a b. h.1 (suc k) d (omega arith) (omega arith)))
rest_fails p (x ∷ xs) (suc i) h = rest_fails p xs i (later_parts p x xs i h)

-- what passes neither test in front
pub none_in_front : {X : Type 0} (p q : X → Bool) → ((x : X) → p x ≡ true → q x ≡ false) → (xs : List X) (i : ℕ)
    → Parts p xs i → filter q xs ≡ filter q (drop i xs)
none_in_front p q apart xs zero h = refl
none_in_front p q apart [] (suc i) h = refl
none_in_front p q apart (x ∷ xs) (suc i) h =
    ap (λ b. cond b (x ∷ filter q xs) (filter q xs)) (apart x (h.0 zero x (omega arith) (omega arith)))
    ∙ none_in_front p q apart xs i (later_parts p x xs i h)

-- what passes stands in front
pub all_in_front : {X : Type 0} (q : X → Bool) (ys : List X) (j : ℕ)
    → ((k : ℕ) (d : X) → k < j → k < length ys → q (get_or ys k d) ≡ true)
    → ((k : ℕ) (d : X) → j ≤ k → k < length ys → q (get_or ys k d) ≡ false)
    → filter q ys ≡ take j ys
all_in_front q [] zero a b = refl
all_in_front q [] (suc j) a b = refl
all_in_front q (y ∷ ys) zero a b =
    ap (λ c. cond c (y ∷ filter q ys) (filter q ys)) (b zero y (omega arith) (omega arith))
    ∙ all_in_front q ys zero (λ k d m l. absurd (omega arith)) (λ k d m l. b (suc k) d (omega arith) (omega arith))
all_in_front q (y ∷ ys) (suc j) a b =
    ap (λ c. cond c (y ∷ filter q ys) (filter q ys)) (a zero y (omega arith) (omega arith))
    ∙ ap (λ zs. y ∷ zs) (all_in_front q ys j (λ k d m l. a (suc k) d (omega arith) (omega arith))
    (λ k d m l. b (suc k) d (omega arith) (omega arith)))

-- the elements of a number stand together
pub of_number : {X : Type 0} (n : X → ℕ) (t : ℕ) (xs : List X) (i j : ℕ) → Parts (λ x. nat_lt (n x) t) xs i
    → Parts (λ x. nat_le (n x) t) (drop i xs) j → take j (drop i xs) ≡ filter (λ x. nat_eq (n x) t) xs
of_number n t xs i j h k =
    sym (none_in_front (λ x. nat_lt (n x) t) (λ x. nat_eq (n x) t) (λ x e. less (n x) e) xs i h
    ∙ all_in_front (λ x. nat_eq (n x) t) (drop i xs) j
    (λ m d a b.
    equal (n (get_or (drop i xs) m d))
    (each_at (λ x. not (nat_lt (n x) t)) (drop i xs) m d (rest_fails (λ x. nat_lt (n x) t) xs i h) b)
    (k.0 m d (omega arith) a))
    (λ m d a b. more (n (get_or (drop i xs) m d)) (k.1 m d a b)))
  where
    less : (a : ℕ) → nat_lt a t ≡ true → nat_eq a t ≡ false
    less a h = grind (arith, h)

    more : (a : ℕ) → nat_le a t ≡ false → nat_eq a t ≡ false
    more a h = grind (arith, h)

    equal : (a : ℕ) → not (nat_lt a t) ≡ true → nat_le a t ≡ true → nat_eq a t ≡ true
    equal a h k = grind (arith, h, k)

-- and so do the rows of a kind
pub of_kind : (kind : Kind) (xs : List Row) (i j : ℕ) → Parts (λ x. nat_lt (rank (kind_of (key_of x))) (rank kind)) xs i
    → Parts (λ x. nat_le (rank (kind_of (key_of x))) (rank kind)) (drop i xs) j →
    take j (drop i xs) ≡ filter (is_of kind) xs
of_kind kind xs i j h k = of_number (λ x. rank (kind_of (key_of x))) (rank kind) xs i j h k
