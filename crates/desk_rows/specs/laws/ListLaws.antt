-- Tests, counts and searches on lists of anything.
use Rattle.std.specs.Prelude.{◌≡◌, ◌<◌, ◌≤◌, ◌||◌, ◌∷◌, ◌++◌, ◌+◌, ◌&&◌, ◌⊎◌}
use Rattle.desk_rows.specs.laws.Words.{ℕ, zero, suc, Bool, true, false, cond, List, [], length, get_or, nat_lt, Option}
use Rattle.desk_rows.specs.laws.Words.{None, Some, refl, sym, ap, ◌∙◌, arith, map, nat_eq, not, inl, inr, filter}
use Rattle.desk_rows.specs.laws.Words.{eqb-true, zero-add, and_parts, cases_Bool, true_from_ne_false}
use Rattle.desk_rows.specs.laws.Words.{false_from_ne_true, slice_get-get_or, nat_tests, fold-map, find_at}
use Rattle.desk_rows.specs.laws.Words.{sum_by-append, sum_by-cons, prefix_len_is, find, list_any, list_all, slice_get}
use Rattle.desk_rows.specs.laws.Words.{is_some, option_map, count_by, eq-eqb, stand_by}

pub true_false : true ≡ false → ⊥
true_false e = cc

pub both_ways : (s t : Bool) → (s ≡ true → t ≡ true) → (t ≡ true → s ≡ true) → s ≡ t
both_ways s t f g = grind (arith, f, g)

pub and_turned : (a b : Bool) → (a && b) ≡ (b && a)
and_turned a b = grind arith

pub or_turned : (a b : Bool) → (a || b) ≡ (b || a)
or_turned a b = grind arith

-- ---- counts

-- any test is passed by as many
abbrev pub SameCounts : {X : Type 0} → List X → List X → Type 0
SameCounts {X} xs ys = (p : X → Bool) → count_by p xs ≡ count_by p ys

pub count_next : {X : Type 0} (p : X → Bool) (x : X) (xs : List X)
    → count_by p (x ∷ xs) ≡ cond (p x) 1 0 + count_by p xs
count_next p x xs = sum_by-cons (λ y. cond (p y) 1 0) x xs

pub count_yes : {X : Type 0} (p : X → Bool) (x : X) (xs : List X) → p x ≡ true → count_by p (x ∷ xs) ≡ 1 + count_by p xs
count_yes p x xs e = count_next p x xs ∙ ap (λ b. cond b 1 0 + count_by p xs) e

pub count_no : {X : Type 0} (p : X → Bool) (x : X) (xs : List X) → p x ≡ false → count_by p (x ∷ xs) ≡ count_by p xs
count_no p x xs e = count_next p x xs ∙ ap (λ b. cond b 1 0 + count_by p xs) e ∙ zero-add (count_by p xs)

pub count_by-append : {X : Type 0} (p : X → Bool) (xs ys : List X)
    → count_by p (xs ++ ys) ≡ count_by p xs + count_by p ys
count_by-append p xs ys = sum_by-append (λ x. cond (p x) 1 0) xs ys

pub count_by-map : {X Y : Type 0} (f : X → Y) (p : Y → Bool) (xs : List X)
    → count_by p (map f xs) ≡ count_by (λ x. p (f x)) xs
count_by-map f p xs = fold-map (λ a x. a + cond (p x) 1 0) f 0 xs

pub count_by-filter : {X : Type 0} (p q : X → Bool) (xs : List X)
    → count_by p (filter q xs) ≡ count_by (λ x. q x && p x) xs
count_by-filter p q [] = refl
count_by-filter p q (x ∷ xs) =
    grind (arith, count_by-filter p q xs, count_next p x (filter q xs), count_next (λ x. q x && p x) x xs)

-- no more pass than pass a weaker test
pub more_pass : {X : Type 0} (p q : X → Bool) → ((x : X) → p x ≡ true → q x ≡ true) → (xs : List X)
    → count_by p xs ≤ count_by q xs
more_pass p q each [] = omega arith
more_pass p q each (x ∷ xs) = grind (arith, each x, more_pass p q each xs, count_next p x xs, count_next q x xs)

-- some element passes exactly where their count is not 0
pub any_count : {X : Type 0} (p : X → Bool) (xs : List X) → list_any p xs ≡ nat_lt 0 (count_by p xs)
any_count p [] = refl
any_count p (x ∷ xs) = grind (arith, nat_tests, any_count p xs, count_next p x xs)

-- all pass exactly where the count of those that fail is 0
pub all_count : {X : Type 0} (p : X → Bool) (xs : List X) → list_all p xs ≡ nat_eq (count_by (λ x. not (p x)) xs) 0
all_count p [] = refl
all_count p (x ∷ xs) = grind (arith, nat_tests, all_count p xs, count_next (λ x. not (p x)) x xs)

pub count_all : {X : Type 0} (xs : List X) → count_by (λ x. true) xs ≡ length xs
count_all [] = refl
count_all (x ∷ xs) = let rest = count_all xs in omega (arith, rest, count_next (λ x. true) x xs)

pub some_count : {X : Type 0} (p : X → Bool) (xs : List X) → list_any p xs ≡ true → 1 ≤ count_by p xs
some_count p xs h = let e : nat_lt 0 (count_by p xs) ≡ true = sym (any_count p xs) ∙ h in grind (arith, e)

pub count_some : {X : Type 0} (p : X → Bool) (xs : List X) → 1 ≤ count_by p xs → list_any p xs ≡ true
count_some p xs h = let e = any_count p xs in grind (arith, nat_tests, e, h)

pub no_count : {X : Type 0} (p : X → Bool) (xs : List X) → list_any p xs ≡ false → count_by p xs ≡ 0
no_count p xs h = let e : nat_lt 0 (count_by p xs) ≡ false = sym (any_count p xs) ∙ h in grind (arith, e)

-- where none passes, each fails
pub none_pass : {X : Type 0} (p : X → Bool) (xs : List X) → list_any p xs ≡ false → list_all (λ x. not (p x)) xs ≡ true
none_pass p [] h = refl
none_pass p (x ∷ xs) h = grind (arith, none_pass p xs, h)

pub none_any : {X : Type 0} (p : X → Bool) (xs : List X) → count_by p xs ≡ 0 → list_any p xs ≡ false
none_any p xs h = any_count p xs ∙ ap (nat_lt 0) h

-- ---- lists of which any test counts as many

pub same_any : {X : Type 0} (p : X → Bool) (xs ys : List X) → SameCounts xs ys → list_any p xs ≡ list_any p ys
same_any p xs ys same = any_count p xs ∙ ap (nat_lt 0) (same p) ∙ sym (any_count p ys)

pub same_all : {X : Type 0} (p : X → Bool) (xs ys : List X) → SameCounts xs ys → list_all p xs ≡ list_all p ys
same_all p xs ys same = all_count p xs ∙ ap (λ n. nat_eq n 0) (same (λ x. not (p x))) ∙ sym (all_count p ys)

pub same_length : {X : Type 0} (xs ys : List X) → SameCounts xs ys → length xs ≡ length ys
same_length xs ys same = sym (count_all xs) ∙ same (λ x. true) ∙ count_all ys

pub same_filtered : {X : Type 0} (q : X → Bool) (xs ys : List X) → SameCounts xs ys
    → SameCounts (filter q xs) (filter q ys)
same_filtered q xs ys same p = count_by-filter p q xs ∙ same (λ x. q x && p x) ∙ sym (count_by-filter p q ys)

-- two that have one element at most are one
pub same_short : {X : Type 0} (eq : X → X → Bool) → ((x : X) → eq x x ≡ true) → ((x y : X) → eq x y ≡ true → x ≡ y)
    → (xs ys : List X) → length ys ≤ 1 → SameCounts xs ys → xs ≡ ys
same_short eq own is [] [] short same = refl
same_short eq own is (x ∷ []) (y ∷ []) short same =
    ap (λ z. z ∷ []) (is x y (true_from_ne_false (eq x y)
    (λ e. omega (arith, same (eq x), count_yes (eq x) x [] (own x), count_no (eq x) y [] e))))
same_short eq own is xs ys short same = absurd (omega (arith, same_length xs ys same, short))

-- ---- what is found

pub found_or_none : {X : Type 0} (o : Option X) → is_some o ≡ false → o ≡ None
found_or_none o h = grind (arith, h)

pub is_found : {X : Type 0} (p : X → Bool) (xs : List X) → list_any p xs ≡ is_some (find p xs)
is_found p [] = refl
is_found p (x ∷ xs) = grind (arith, is_found p xs)

pub found_nothing : {X : Type 0} (p : X → Bool) (xs : List X) → list_any p xs ≡ false → find p xs ≡ None
found_nothing p xs h = found_or_none (find p xs) (sym (is_found p xs) ∙ h)

-- at the first place where the test passes
pub found_at : {X : Type 0} (p : X → Bool) (xs : List X) (i : ℕ) (d : X) → ((k : ℕ) → k < i → p (get_or xs k d) ≡ false)
    → i < length xs → p (get_or xs i d) ≡ true → find p xs ≡ Some (get_or xs i d)
found_at p xs i d before l here =
    find_at p xs
    ∙ ap (slice_get xs)
    (prefix_len_is (λ x. not (p x)) xs i d (omega arith) (λ k m. ap not (before k m)) (λ m. ap not here))
    ∙ slice_get-get_or xs i d l

pub none_there : {X : Type 0} (p : X → Bool) (xs : List X) (d : X)
    → ((k : ℕ) → k < length xs → p (get_or xs k d) ≡ false) → list_any p xs ≡ false
none_there p [] d h = refl
none_there p (x ∷ xs) d h = (λ i. h zero (omega arith) i || none_there p xs d (λ k l. h (suc k) (omega arith)) i)

-- where an element that passes a narrower test is there, and no other passes, it is found
pub found_once : {X : Type 0} (p r : X → Bool) → ((x : X) → r x ≡ true → p x ≡ true) → (xs : List X) → 1 ≤ count_by r xs
    → count_by p xs ≤ 1 → (x : X) × (find p xs ≡ Some x) × (r x ≡ true)
found_once p r is [] there once = absurd (omega (arith, there))
found_once p r is (x ∷ xs) there once =
    elim (cases_Bool (r x)) [
      | inl e ↦ (x, ap (λ b. cond b (Some x) (find p xs)) (is x e), e)
      | inr e ↦
          let behind : 1 ≤ count_by r xs = omega (arith, there, count_no r x xs e) in
          let fails : p x ≡ false =
          false_from_ne_true (p x) (λ f. omega (arith, once, behind, more_pass r p is xs, count_yes p x xs f)) in
          let rest = found_once p r is xs behind (omega (arith, once, count_no p x xs fails)) in
          (rest.0, ap (λ b. cond b (Some x) (find p xs)) fails ∙ rest.1, rest.2)
    ]

found_any : {X : Type 0} (p r : X → Bool) (xs : List X) (x : X) → find p xs ≡ Some x → r x ≡ true
    → list_any (λ y. p y && r y) xs ≡ true
found_any p r [] x h k = absurd (cc)
found_any p r (y ∷ xs) x h k = grind (arith, h, k, found_any p r xs x)

-- where one element passes at most, it has one number in both
pub found_alike : {X : Type 0} (p : X → Bool) (f : X → ℕ) (xs ys : List X) → SameCounts xs ys → count_by p ys ≤ 1
    → option_map f (find p xs) ≡ option_map f (find p ys)
found_alike {X} p f xs ys same once = by (find p xs) refl
  where
    by : (o : Option X) → find p xs ≡ o → option_map f o ≡ option_map f (find p ys)
    by None h =
        sym (ap (option_map f) (found_nothing p ys (sym (same_any p xs ys same) ∙ is_found p xs ∙ ap is_some h)))
    by (Some x) h =
        let r : X → Bool = λ y. p y && nat_eq (f y) (f x) in
        let there : 1 ≤ count_by r ys =
        some_count r ys
        (sym (same_any r xs ys same) ∙ found_any p (λ y. nat_eq (f y) (f x)) xs x h (eq-eqb (f x) (f x) refl)) in
        let now = found_once p r (λ y e. (and_parts (p y) (nat_eq (f y) (f x)) e).0) ys there once in
        sym (ap (option_map f) now.1
        ∙ ap Some (eqb-true (f now.0) (f x) (and_parts (p now.0) (nat_eq (f now.0) (f x)) now.2).1))

-- ---- what holds of each behind a filter

pub list_all-filter : {X : Type 0} (p q : X → Bool) (xs : List X) → list_all p xs ≡ true
    → list_all p (filter q xs) ≡ true
list_all-filter p q [] h = refl
list_all-filter p q (x ∷ xs) h = grind (arith, h, list_all-filter p q xs)

pub filter_all : {X : Type 0} (p : X → Bool) (xs : List X) → list_all p xs ≡ true → filter p xs ≡ xs
filter_all p [] h = refl
filter_all p (x ∷ xs) h = grind (arith, h, filter_all p xs)

pub all_pass : {X : Type 0} (q : X → Bool) (xs : List X) → list_all q (filter q xs) ≡ true
all_pass q [] = refl
all_pass q (x ∷ xs) = grind (arith, all_pass q xs)

pub each_at : {X : Type 0} (p : X → Bool) (xs : List X) (i : ℕ) (d : X) → list_all p xs ≡ true → i < length xs
    → p (get_or xs i d) ≡ true
each_at p [] i d h l = absurd (omega arith)
each_at p (x ∷ xs) zero d h l = grind (arith, h)
each_at p (x ∷ xs) (suc i) d h l = grind (arith, h, each_at p xs i d)

-- ---- elements that stand in an order

pub stand_by-filter : {X : Type 0} (may : X → X → Bool) (q : X → Bool) (xs : List X) → stand_by may xs ≡ true
    → stand_by may (filter q xs) ≡ true
stand_by-filter may q [] h = refl
stand_by-filter may q (x ∷ xs) h = grind (arith, h, stand_by-filter may q xs, list_all-filter (may x) q xs)

-- what stands ahead may stand before what stands behind
pub ahead_may : {X : Type 0} (may : X → X → Bool) (xs : List X) → stand_by may xs ≡ true → (i j : ℕ) (d : X) → i ≤ j
    → j < length xs → (i ≡ j) ⊎ (may (get_or xs i d) (get_or xs j d) ≡ true)
ahead_may may [] h i j d le lt = absurd (omega arith)
ahead_may may (x ∷ xs) h zero zero d le lt = inl refl
ahead_may may (x ∷ xs) h zero (suc j) d le lt =
    inr (each_at (may x) xs j d (and_parts (list_all (may x) xs) (stand_by may xs) h).0 (omega arith))
ahead_may may (x ∷ xs) h (suc i) zero d le lt = absurd (omega arith)
ahead_may may (x ∷ xs) h (suc i) (suc j) d le lt =
    elim (ahead_may may xs (and_parts (list_all (may x) xs) (stand_by may xs) h).1 i j d (omega arith) (omega arith)) [
      | inl e ↦ inl (ap suc e)
      | inr e ↦ inr e
    ]

-- a test that holds of an element where it holds of one behind it
pub falling : {X : Type 0} (may : X → X → Bool) (p : X → Bool) → ((a b : X) → may a b ≡ true → p b ≡ true → p a ≡ true)
    → (xs : List X) → stand_by may xs ≡ true
    → (i j : ℕ) (d : X) → i ≤ j → j < length xs → p (get_or xs j d) ≡ true → p (get_or xs i d) ≡ true
falling may p falls xs h i j d le lt e = elim (ahead_may may xs h i j d le lt) [
  | inl same ↦ ap (λ k. p (get_or xs k d)) same ∙ e
  | inr ahead ↦ falls (get_or xs i d) (get_or xs j d) ahead e
]
