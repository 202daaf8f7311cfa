-- A row put in, or taken out, at the place that parts the rows before it from those behind.
use Rattle.std.specs.Prelude.{◌≡◌, ◌<◌, ◌≤◌, ◌||◌, ◌∷◌, ◌++◌, ◌⊎◌}
use Rattle.desk_rows.specs.laws.Words.{ℕ, zero, suc, Bool, true, false, cond, List, [], length, refl, sym, ap, ◌∙◌}
use Rattle.desk_rows.specs.laws.Words.{arith, not, inl, inr, take, insert, remove, set, and_parts, and_from, cases_Bool}
use Rattle.desk_rows.specs.laws.Words.{false_from_ne_true, not-true, not-false, length-filter, count_by-le-length}
use Rattle.desk_rows.specs.laws.Words.{list_all, slice_get, Row, is_in, in_order, without_rows, precedes, with_row}
use Rattle.desk_rows.specs.laws.Words.{key_precedes, same_row, key_of, Parts, is_found_as}
use Rattle.desk_rows.specs.laws.Equal.{keys_precede_on, same_row_is, row_itself}
use Rattle.desk_rows.specs.laws.ListLaws.{true_false, or_turned, filter_all}
use Rattle.desk_rows.specs.laws.OrderLaws.{same_row_turned, precedes_on, one_way, before_other, none_before, at_each}
use Rattle.desk_rows.specs.laws.OrderLaws.{from_each, in_order-filter}
use Rattle.desk_rows.proofs.Halving.{later_parts}
use Rattle.desk_rows.proofs.Loops.{before_all}

-- what a row stands before, those behind are too
pub before_falls : (r a b : Row) → precedes a b ≡ true → not (precedes r b) ≡ true → not (precedes r a) ≡ true
before_falls r a b e f =
    ap not (false_from_ne_true (precedes r a)
    (λ first. true_false (sym f ∙ ap not (keys_precede_on (key_of r) (key_of a) (key_of b) first e))))

pub put_in : (r : Row) (xs : List Row) (i : ℕ) → Parts (λ x. not (precedes r x)) xs i → i ≤ length xs
    → with_row r xs ≡ insert xs i r
put_in r [] zero h l = refl
put_in r [] (suc i) h l = absurd (omega (arith, l))
put_in r (x ∷ xs) zero h l =
    ap (λ b. cond b (r ∷ x ∷ xs) (x ∷ with_row r xs))
    (not-false (precedes r x) (h.1 zero x (omega arith) (omega arith)))
put_in r (x ∷ xs) (suc i) h l =
    let rest : with_row r xs ≡ insert xs i r =
    put_in r xs i (later_parts (λ y. not (precedes r y)) x xs i h) (omega (arith, l)) in
    ap (λ b. cond b (r ∷ x ∷ xs) (x ∷ with_row r xs)) (not-true (precedes r x) (h.0 zero x (omega arith) (omega arith)))
    ∙ ap (λ ys. x ∷ ys) rest

-- ---- taken out

-- rows that are not this one stay
others_stay : (r : Row) (xs : List Row) → list_all (λ x. not (same_row x r)) xs ≡ true → without_rows (r ∷ []) xs ≡ xs
others_stay r xs h =
    filter_all (λ x. not (is_in (r ∷ []) x)) xs (from_each (λ x. not (is_in (r ∷ []) x)) xs
    (λ x one. ap not (or_turned (same_row x r) false) ∙ at_each (λ x. not (same_row x r)) xs x h one))

-- behind a row of its key, or of a later one, it is not
none_behind : (r x : Row) (xs : List Row) → list_all (precedes x) xs ≡ true → precedes x r ≡ false
    → list_all (λ y. not (same_row y r)) xs ≡ true
none_behind r x xs ahead late =
    from_each (λ y. not (same_row y r)) xs (λ y one. ap not (false_from_ne_true (same_row y r) (λ e.
    true_false (sym (at_each (precedes x) xs y ahead one) ∙ ap (λ q. precedes x q) (same_row_is y r e) ∙ late))))

-- of rows in order, of which none stands before this one, it can only be the first
pub first_only : (r x : Row) (xs : List Row) (b : Bool) → list_all (precedes x) xs ≡ true → precedes x r ≡ false
    → same_row x r ≡ b →
    without_rows (r ∷ []) (x ∷ xs) ≡ cond b xs (x ∷ xs)
first_only r x xs b ahead late e =
    let rest = others_stay r xs (none_behind r x xs ahead late) in
    (λ i. cond (not (e i || false)) (x ∷ rest i) (rest i)) ∙ turned b where
      turned : (b : Bool) → cond (not (b || false)) (x ∷ xs) xs ≡ cond b xs (x ∷ xs)
      turned b = grind arith

pub first_left : (r x : Row) (xs rows : List Row) (b : Bool) → rows ≡ x ∷ xs → in_order rows ≡ true
    → list_all (λ y. not (precedes y r)) rows ≡ true →
    same_row x r ≡ b → cond b xs rows ≡ without_rows (r ∷ []) rows
first_left r x xs rows b is order behind e =
    let ahead = and_parts (list_all (precedes x) xs) (in_order xs) (ap in_order (sym is) ∙ order) in
    let late =
    and_parts (not (precedes x r)) (list_all (λ y. not (precedes y r)) xs)
    (ap (list_all (λ y. not (precedes y r))) (sym is) ∙ behind) in
    ap (cond b xs) is
    ∙ sym (ap (without_rows (r ∷ [])) is ∙ first_only r x xs b ahead.0 (not-true (precedes x r) late.0) e)

pub take_out : (r : Row) (xs : List Row) (i : ℕ) → in_order xs ≡ true → Parts (λ x. precedes x r) xs i
    → is_found_as r (slice_get xs i) ≡ true → without_rows (r ∷ []) xs ≡ remove xs i
take_out r [] i h p e = cc
take_out r (x ∷ xs) zero h p e =
    first_only r x xs true (and_parts (list_all (precedes x) xs) (in_order xs) h).0
    (p.1 zero x (omega arith) (omega arith)) e
take_out r (x ∷ xs) (suc i) h p e =
    let order = and_parts (list_all (precedes x) xs) (in_order xs) h in
    let rest : without_rows (r ∷ []) xs ≡ remove xs i =
    take_out r xs i order.1 (later_parts (λ y. precedes y r) x xs i p) e in
    ap (λ b. cond (not (b || false)) (x ∷ without_rows (r ∷ []) xs) (without_rows (r ∷ []) xs))
    (before_other x r (p.0 zero x (omega arith) (omega arith)))
    ∙ ap (λ ys. x ∷ ys) rest

pub none_out : (r : Row) (xs : List Row) (i : ℕ) → in_order xs ≡ true → Parts (λ x. precedes x r) xs i
    → is_found_as r (slice_get xs i) ≡ false → without_rows (r ∷ []) xs ≡ xs
none_out r [] i h p e = refl
none_out r (x ∷ xs) zero h p e =
    first_only r x xs false (and_parts (list_all (precedes x) xs) (in_order xs) h).0
    (p.1 zero x (omega arith) (omega arith)) e
none_out r (x ∷ xs) (suc i) h p e =
    let order = and_parts (list_all (precedes x) xs) (in_order xs) h in
    let rest = none_out r xs i order.1 (later_parts (λ y. precedes y r) x xs i p) e in
    ap (λ b. cond (not (b || false)) (x ∷ without_rows (r ∷ []) xs) (without_rows (r ∷ []) xs))
    (before_other x r (p.0 zero x (omega arith) (omega arith)))
    ∙ ap (λ ys. x ∷ ys) rest

pub none_go : (xs : List Row) → without_rows [] xs ≡ xs
none_go xs = filter_all (λ x. true) xs (from_each (λ x. true) xs (λ q one. refl))

pub rest_in_order : (rs xs : List Row) → in_order xs ≡ true → in_order (without_rows rs xs) ≡ true
rest_in_order rs xs h = in_order-filter (λ x. not (is_in rs x)) xs h

-- ---- many taken out

-- a row that stands before the first of those that go stays
first_stays : (t x : Row) (ts xs : List Row) → in_order (t ∷ ts) ≡ true → precedes x t ≡ true
    → without_rows (t ∷ ts) (x ∷ xs) ≡ x ∷ without_rows (t ∷ ts) xs
first_stays t x ts xs h e =
    ap (λ b. cond (not b) (x ∷ without_rows (t ∷ ts) xs) (without_rows (t ∷ ts) xs))
    (none_before x (t ∷ ts) (before_all x (t ∷ ts) (and_from _ _ e refl) h))

pub front_stays : (t : Row) (ts front behind : List Row) → in_order (t ∷ ts) ≡ true
    → list_all (λ x. precedes x t) front ≡ true
    → without_rows (t ∷ ts) (front ++ behind) ≡ front ++ without_rows (t ∷ ts) behind
front_stays t ts [] behind h f = refl
front_stays t ts (x ∷ xs) behind h f =
    let both = and_parts (precedes x t) (list_all (λ x. precedes x t) xs) f in
    first_stays t x ts (xs ++ behind) h both.0 ∙ ap (λ ys. x ∷ ys) (front_stays t ts xs behind h both.1)

pub out_in_turn : (t : Row) (ts xs : List Row) → without_rows (t ∷ ts) xs ≡ without_rows ts (without_rows (t ∷ []) xs)
out_in_turn t ts [] = refl
out_in_turn t ts (x ∷ xs) = by (out_in_turn t ts xs) (cases_Bool (same_row x t)) where
  by : without_rows (t ∷ ts) xs ≡ without_rows ts (without_rows (t ∷ []) xs)
      → (same_row x t ≡ true) ⊎ (same_row x t ≡ false)
      → without_rows (t ∷ ts) (x ∷ xs) ≡ without_rows ts (without_rows (t ∷ []) (x ∷ xs))
  by rest (inl e) =
      ap (λ b. cond (not (b || is_in ts x)) (x ∷ without_rows (t ∷ ts) xs) (without_rows (t ∷ ts) xs)) e ∙ rest
      ∙ sym
      (ap (λ b. without_rows ts (cond (not (b || false)) (x ∷ without_rows (t ∷ []) xs) (without_rows (t ∷ []) xs))) e)
  by rest (inr e) =
      ap (λ b. cond (not (b || is_in ts x)) (x ∷ without_rows (t ∷ ts) xs) (without_rows (t ∷ ts) xs)) e
      ∙ ap (λ ys. cond (not (is_in ts x)) (x ∷ ys) ys) rest
      ∙ sym
      (ap (λ b. without_rows ts (cond (not (b || false)) (x ∷ without_rows (t ∷ []) xs) (without_rows (t ∷ []) xs))) e)

pub few_left : (ts xs : List Row) → length (without_rows ts xs) ≤ length xs
few_left ts xs = omega (arith, length-filter (λ x. not (is_in ts x)) xs, count_by-le-length (λ x. not (is_in ts x)) xs)

-- ---- parted

pub front_passes : (p : Row → Bool) (xs : List Row) (i : ℕ) → Parts p xs i → list_all p (take i xs) ≡ true
front_passes p xs zero h = refl
front_passes p [] (suc i) h = refl
front_passes p (x ∷ xs) (suc i) h =
    and_from _ _ (h.0 zero x (omega arith) (omega arith)) (front_passes p xs i (later_parts p x xs i h))

pub none_ahead : (r x : Row) (xs : List Row) → in_order (x ∷ xs) ≡ true → precedes x r ≡ false
    → list_all (λ y. not (precedes y r)) (x ∷ xs) ≡ true
none_ahead r x xs h late =
    let order = and_parts (list_all (precedes x) xs) (in_order xs) h in
    and_from _ _ (ap not late) (from_each (λ y. not (precedes y r)) xs (λ y one.
    ap not (false_from_ne_true (precedes y r)
    (λ e. true_false (sym (precedes_on x y r (at_each (precedes x) xs y order.0 one) e) ∙ late)))))

-- ---- one in place of another

-- a row of the key of one that stood before all of these stands before them
put_first : (x n : Row) (xs : List Row) → key_of x ≡ key_of n → list_all (precedes x) xs ≡ true → with_row n xs ≡ n ∷ xs
put_first x n [] same h = refl
put_first x n (y ∷ ys) same h =
    ap (λ b. cond b (n ∷ y ∷ ys) (y ∷ with_row n ys))
    (ap (λ k. key_precedes k (key_of y)) (sym same) ∙ (and_parts (precedes x y) (list_all (precedes x) ys) h).0)

pub replaced_at : (o n : Row) (xs : List Row) (i : ℕ) → in_order xs ≡ true → Parts (λ x. precedes x o) xs i
    → is_in xs o ≡ true → key_of o ≡ key_of n →
    (i < length xs) × (with_row n (without_rows (o ∷ []) xs) ≡ set xs i n)
replaced_at o n [] i h p there same = absurd (true_false (sym there))
replaced_at o n (x ∷ xs) zero h p there same =
    let order = and_parts (list_all (precedes x) xs) (in_order xs) h in
    let late = p.1 zero x (omega arith) (omega arith) in
    let not_behind : is_in xs o ≡ false =
    false_from_ne_true _ (λ e. true_false (sym (at_each (precedes x) xs o order.0 e) ∙ late)) in
    let is : x ≡ o =
    sym
    (same_row_is o x (sym (or_turned (same_row o x) false) ∙ ap (λ b. same_row o x || b) (sym not_behind) ∙ there)) in
    let gone = first_only o x xs true order.0 late (ap (λ y. same_row y o) is ∙ row_itself o) in
    (omega arith, ap (with_row n) gone ∙ put_first x n xs (ap key_of is ∙ same) order.0)
replaced_at o n (x ∷ xs) (suc i) h p there same =
    let order = and_parts (list_all (precedes x) xs) (in_order xs) h in
    let first = p.0 zero x (omega arith) (omega arith) in
    let later : is_in xs o ≡ true =
    sym (ap (λ b. b || is_in xs o) (same_row_turned o x ∙ before_other x o first)) ∙ there in
    let rest = replaced_at o n xs i order.1 (later_parts (λ y. precedes y o) x xs i p) later same in
    let behind : precedes n x ≡ false = sym (ap (λ k. key_precedes k (key_of x)) same) ∙ one_way x o first in (
      omega (arith, rest.0),
      ap (λ b. with_row n (cond (not (b || false)) (x ∷ without_rows (o ∷ []) xs) (without_rows (o ∷ []) xs)))
          (before_other x o first)
          ∙ ap (λ b. cond b (n ∷ x ∷ without_rows (o ∷ []) xs) (x ∷ with_row n (without_rows (o ∷ []) xs))) behind
          ∙ ap (λ ys. x ∷ ys) rest.1,
    )
