-- Two lists of rows in order, gone through side by side.
use Rattle.std.specs.Prelude.{◌||◌, ◌∷◌}
use Rattle.desk_rows.specs.laws.Words.{◌≡◌, true, false, cond, not, List, [], refl, sym, ap, ◌∙◌, arith, and_parts}
use Rattle.desk_rows.specs.laws.Words.{or_left, false_from_ne_true, is_in, in_order, precedes, same_row}
use Rattle.desk_rows.specs.laws.Words.{without_rows, list_all}
use Rattle.desk_rows.specs.declared.row.Row.{Row}
use Rattle.desk_rows.specs.laws.Equal.{same_row_is, row_itself}
use Rattle.desk_rows.specs.laws.ListLaws.{true_false}
use Rattle.desk_rows.specs.laws.OrderLaws.{at_each, from_each, filter_all, none_before, one_way, same_row_turned}
use Rattle.desk_rows.specs.laws.OrderLaws.{before_other}

-- nothing is left out
pub all_stay : (xs : List Row) → without_rows [] xs ≡ xs
all_stay xs = filter_all (λ x. true) xs (from_each (λ x. true) xs (λ q one. refl))

-- a row that isn't among the others changes nothing of what is left of them
pub passed : (x : Row) (xs ys : List Row) → is_in ys x ≡ false → without_rows (x ∷ xs) ys ≡ without_rows xs ys
passed x xs [] h = refl
passed x xs (y ∷ ys) h = grind (arith, h, same_row_turned x y, passed x xs ys)

-- it stands first of what is left
pub kept : (x : Row) (xs ys : List Row) → is_in ys x ≡ false → without_rows ys (x ∷ xs) ≡ x ∷ without_rows ys xs
kept x xs ys h = ap (λ b. cond (not b) (x ∷ without_rows ys xs) (without_rows ys xs)) h

-- a row that heads both
pub shared : (x : Row) (xs ys : List Row) → in_order (x ∷ xs) ≡ true
    → without_rows (x ∷ ys) (x ∷ xs) ≡ without_rows ys xs
shared x xs ys h =
    ap (λ b. cond (not b) (x ∷ without_rows (x ∷ ys) xs) (without_rows (x ∷ ys) xs))
    (or_left (same_row x x) (is_in ys x) (row_itself x))
    ∙ passed x ys xs (none_before x xs (and_parts (list_all (precedes x) xs) (in_order xs) h).0)

-- a row that isn't the first of rows in order, nor behind it, is none of them
pub absent : (x y : Row) (ys : List Row) → in_order (y ∷ ys) ≡ true → same_row x y ≡ false → precedes y x ≡ false
    → is_in (y ∷ ys) x ≡ false
absent x y ys h other ahead =
    let behind : is_in ys x ≡ false =
    false_from_ne_true (is_in ys x) (λ e.
    true_false (sym (at_each (precedes y) ys x (and_parts (list_all (precedes y) ys) (in_order ys) h).0 e) ∙ ahead)) in
    λ i. other i || behind i

-- ---- the heads of both

pub one_row : (x y : Row) (xs ys : List Row) → in_order (x ∷ xs) ≡ true → in_order (y ∷ ys) ≡ true
    → same_row x y ≡ true →
    (without_rows (y ∷ ys) (x ∷ xs) ≡ without_rows ys xs) × (without_rows (x ∷ xs) (y ∷ ys) ≡ without_rows xs ys)
one_row x y xs ys h k same =
    let is : x ≡ y = same_row_is x y same in (
      ap (λ z. without_rows (z ∷ ys) (x ∷ xs)) (sym is) ∙ shared x xs ys h,
      ap (λ z. without_rows (z ∷ xs) (y ∷ ys)) is ∙ shared y ys xs k,
    )

pub second_first : (x y : Row) (xs ys : List Row) → in_order (x ∷ xs) ≡ true → precedes y x ≡ true →
    (without_rows (y ∷ ys) (x ∷ xs) ≡ without_rows ys (x ∷ xs))
    × (without_rows (x ∷ xs) (y ∷ ys) ≡ y ∷ without_rows (x ∷ xs) ys)
second_first x y xs ys h ahead =
    let none = absent y x xs h (before_other y x ahead) (one_way y x ahead) in
    (passed y ys (x ∷ xs) none, kept y ys (x ∷ xs) none)

pub first_first : (x y : Row) (xs ys : List Row) → in_order (y ∷ ys) ≡ true → same_row x y ≡ false
    → precedes y x ≡ false →
    (without_rows (y ∷ ys) (x ∷ xs) ≡ x ∷ without_rows (y ∷ ys) xs)
    × (without_rows (x ∷ xs) (y ∷ ys) ≡ without_rows xs (y ∷ ys))
first_first x y xs ys k other ahead =
    let none = absent x y ys k other ahead in (kept x xs (y ∷ ys) none, passed x xs (y ∷ ys) none)
