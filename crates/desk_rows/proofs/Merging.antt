-- Rows put in one by one make what merging makes.
use Rattle.std.specs.Prelude.{◌≡◌, ◌||◌, ◌∷◌, ◌++◌, ◌&&◌, ◌⊎◌}
use Rattle.desk_rows.specs.laws.Words.{true, false, cond, List, [], refl, sym, ap, ◌∙◌, not, inl, inr, or_right}
use Rattle.desk_rows.specs.laws.Words.{or_cases, and_parts, and_from, cases_Bool, false_from_ne_true, not-true}
use Rattle.desk_rows.specs.laws.Words.{list_all, Row, with_rows, in_order, precedes, with_row, key_is_new, are_apart}
use Rattle.desk_rows.specs.laws.ListLaws.{true_false}
use Rattle.desk_rows.specs.laws.OrderLaws.{precedes_on, one_way, at_each, from_each, list_all-with_row, in_front}

-- ---- one step of a merge

goes_behind : (r x : Row) (xs : List Row) → precedes r x ≡ false → with_row r (x ∷ xs) ≡ x ∷ with_row r xs
goes_behind r x xs e = ap (λ b. cond b (r ∷ x ∷ xs) (x ∷ with_row r xs)) e

goes_before : (r x : Row) (xs : List Row) → precedes r x ≡ true → with_row r (x ∷ xs) ≡ r ∷ x ∷ xs
goes_before r x xs e = ap (λ b. cond b (r ∷ x ∷ xs) (x ∷ with_row r xs)) e

-- rows of which none stands before the first one leave it there
first_stays : (ps : List Row) (x : Row) (xs : List Row) → list_all (λ p. not (precedes p x)) ps ≡ true
    → with_rows ps (x ∷ xs) ≡ x ∷ with_rows ps xs
first_stays [] x xs h = refl
first_stays (p ∷ ps) x xs h =
    let both = and_parts (not (precedes p x)) (list_all (λ p. not (precedes p x)) ps) h in
    ap (with_rows ps) (goes_behind p x xs (not-true (precedes p x) both.0)) ∙ first_stays ps x (with_row p xs) both.1

-- rows that are put stand behind a row that the least of them does not stand before
row_first : (p : Row) (ps : List Row) (x : Row) (xs : List Row) → in_order (p ∷ ps) ≡ true → precedes p x ≡ false
    → with_rows (p ∷ ps) (x ∷ xs) ≡ x ∷ with_rows (p ∷ ps) xs
row_first p ps x xs h e =
    let order = and_parts (list_all (precedes p) ps) (in_order ps) h in
    first_stays (p ∷ ps) x xs (and_from _ _ (ap not e) (from_each (λ q. not (precedes q x)) ps (λ q one.
    ap not (false_from_ne_true (precedes q x)
    (λ f. true_false (sym (precedes_on p q x (at_each (precedes p) ps q order.0 one) f) ∙ e))))))

pub front_stays : (p : Row) (ps front behind : List Row) → in_order (p ∷ ps) ≡ true
    → list_all (λ x. not (precedes p x)) front ≡ true
    → with_rows (p ∷ ps) (front ++ behind) ≡ front ++ with_rows (p ∷ ps) behind
front_stays p ps [] behind h f = refl
front_stays p ps (x ∷ xs) behind h f =
    let both = and_parts (not (precedes p x)) (list_all (λ x. not (precedes p x)) xs) f in
    row_first p ps x (xs ++ behind) h (not-true (precedes p x) both.0)
    ∙ ap (λ ys. x ∷ ys) (front_stays p ps xs behind h both.1)

-- the least row that is put comes first where it stands before the rows
pub comes_first : (p : Row) (ps xs : List Row) → in_order (p ∷ ps) ≡ true → list_all (precedes p) xs ≡ true
    → with_rows (p ∷ ps) xs ≡ p ∷ with_rows ps xs
comes_first p ps xs h ahead =
    let order = and_parts (list_all (precedes p) ps) (in_order ps) h in
    ap (with_rows ps) (in_front p xs ahead)
    ∙ first_stays ps p xs
    (from_each (λ q. not (precedes q p)) ps (λ q one. ap not (one_way p q (at_each (precedes p) ps q order.0 one))))

-- ---- rows in order, without those that came

without_one : (p : Row) (xs : List Row) → in_order (with_row p xs) ≡ true → in_order xs ≡ true
without_one p [] h = refl
without_one p (x ∷ xs) h = by (without_one p xs) (cases_Bool (precedes p x)) where
  by : (in_order (with_row p xs) ≡ true → in_order xs ≡ true) → (precedes p x ≡ true) ⊎ (precedes p x ≡ false)
      → in_order (x ∷ xs) ≡ true
  by rest (inl e) =
      (and_parts (list_all (precedes p) (x ∷ xs)) (in_order (x ∷ xs)) (ap in_order (sym (goes_before p x xs e)) ∙ h)).1
  by rest (inr e) =
      let both =
      and_parts (list_all (precedes x) (with_row p xs)) (in_order (with_row p xs))
      (ap in_order (sym (goes_behind p x xs e)) ∙ h) in
      and_from _ _
      (and_parts (precedes x p) (list_all (precedes x) xs) (sym (list_all-with_row (precedes x) p xs) ∙ both.0)).1
      (rest both.1)

pub order_within : (ps xs : List Row) → in_order (with_rows ps xs) ≡ true → in_order xs ≡ true
order_within [] xs h = h
order_within (p ∷ ps) xs h = without_one p xs (order_within ps (with_row p xs) h)

-- ---- rows put in turn are put at once

-- two rows may change turns
swapped : (a b : Row) (xs : List Row) → precedes a b ≡ true → with_row a (with_row b xs) ≡ with_row b (with_row a xs)
swapped a b [] e = goes_before a b [] e ∙ sym (goes_behind b a [] (one_way a b e))
swapped a b (x ∷ xs) e = by (swapped a b xs e) (cases_Bool (precedes a x)) (cases_Bool (precedes b x)) where
  by : with_row a (with_row b xs) ≡ with_row b (with_row a xs) → (precedes a x ≡ true) ⊎ (precedes a x ≡ false)
      → (precedes b x ≡ true) ⊎ (precedes b x ≡ false)
      → with_row a (with_row b (x ∷ xs)) ≡ with_row b (with_row a (x ∷ xs))
  by rest (inl f) (inl g) =
      ap (with_row a) (goes_before b x xs g) ∙ goes_before a b (x ∷ xs) e
      ∙ sym (ap (with_row b) (goes_before a x xs f)
      ∙ goes_behind b a (x ∷ xs) (one_way a b e)
      ∙ ap (λ ys. a ∷ ys) (goes_before b x xs g))
  by rest (inl f) (inr g) =
      ap (with_row a) (goes_behind b x xs g) ∙ goes_before a x (with_row b xs) f
      ∙ sym (ap (with_row b) (goes_before a x xs f)
      ∙ goes_behind b a (x ∷ xs) (one_way a b e)
      ∙ ap (λ ys. a ∷ ys) (goes_behind b x xs g))
  by rest (inr f) (inl g) = absurd (true_false (sym (precedes_on a b x e g) ∙ f))
  by rest (inr f) (inr g) =
      ap (with_row a) (goes_behind b x xs g) ∙ goes_behind a x (with_row b xs) f ∙ ap (λ ys. x ∷ ys) rest
      ∙ sym (ap (with_row b) (goes_behind a x xs f) ∙ goes_behind b x (with_row a xs) g)

in_turn : (a b : Row) (xs : List Row) → (precedes a b || precedes b a) ≡ true
    → with_row a (with_row b xs) ≡ with_row b (with_row a xs)
in_turn a b xs h =
    elim (or_cases (precedes a b) (precedes b a) h) [
      | inl e ↦ swapped a b xs e
      | inr e ↦ sym (swapped b a xs e)
    ]

last_turn : (n : Row) (ps xs : List Row) → key_is_new n ps ≡ true
    → with_rows ps (with_row n xs) ≡ with_row n (with_rows ps xs)
last_turn n [] xs new = refl
last_turn n (p ∷ ps) xs new =
    let both = and_parts (precedes n p || precedes p n) (key_is_new n ps) new in
    ap (with_rows ps) (sym (in_turn n p xs both.0)) ∙ last_turn n ps (with_row p xs) both.1

among : (n : Row) (ps xs : List Row) → key_is_new n ps ≡ true
    → with_rows (with_row n ps) xs ≡ with_row n (with_rows ps xs)
among n [] xs new = refl
among n (p ∷ ps) xs new = by (among n ps (with_row p xs)) (cases_Bool (precedes n p)) where
  both : ((precedes n p || precedes p n) ≡ true) × (key_is_new n ps ≡ true)
  both = and_parts (precedes n p || precedes p n) (key_is_new n ps) new

  by : (key_is_new n ps ≡ true → with_rows (with_row n ps) (with_row p xs) ≡ with_row n (with_rows ps (with_row p xs)))
      → (precedes n p ≡ true) ⊎ (precedes n p ≡ false)
      → with_rows (with_row n (p ∷ ps)) xs ≡ with_row n (with_rows (p ∷ ps) xs)
  by rest (inl e) = ap (λ ys. with_rows ys xs) (goes_before n p ps e) ∙ last_turn n (p ∷ ps) xs new
  by rest (inr e) = ap (λ ys. with_rows ys xs) (goes_behind n p ps e) ∙ rest both.1

-- rows of two lists that are apart, put in turn
pub put_in_turn : (ps ns xs : List Row) → are_apart ps ns ≡ true
    → with_rows (with_rows ns ps) xs ≡ with_rows ns (with_rows ps xs)
put_in_turn ps ns xs h =
    let both = and_parts (in_order ps && in_order ns) (list_all (λ n. key_is_new n ps) ns) h in
    turns ps ns (and_parts (in_order ps) (in_order ns) both.0).1 both.1 where
      turns : (ps ns : List Row) → in_order ns ≡ true → list_all (λ n. key_is_new n ps) ns ≡ true
          → with_rows (with_rows ns ps) xs ≡ with_rows ns (with_rows ps xs)
      turns ps [] order new = refl
      turns ps (n ∷ ns) order new =
          let first = and_parts (list_all (precedes n) ns) (in_order ns) order in
          let news = and_parts (key_is_new n ps) (list_all (λ n. key_is_new n ps) ns) new in
          turns (with_row n ps) ns first.1 (from_each (λ q. key_is_new q (with_row n ps)) ns (λ q one.
          list_all-with_row (λ x. precedes q x || precedes x q) n ps
          ∙ and_from _ _ (or_right (precedes q n) _ (at_each (precedes n) ns q first.0 one))
          (at_each (λ q. key_is_new q ps) ns q news.1 one)))
          ∙ ap (with_rows ns) (among n ps xs news.0)
