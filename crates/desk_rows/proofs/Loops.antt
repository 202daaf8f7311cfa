-- Steps of loops over rows.
use Rattle.std.specs.Prelude.{◌≡◌, ◌<◌, ◌≤◌, ◌∷◌, ◌++◌}
use Rattle.desk_rows.specs.laws.Words.{ℕ, zero, suc, true, false, List, [], length, get_or, refl, sym, ap, ◌∙◌, arith}
use Rattle.desk_rows.specs.laws.Words.{take, remove, and_parts, and_from, list_all, Placed, MemberRow as Member, Row}
use Rattle.desk_rows.specs.laws.Words.{in_order, precedes, take_at, can_take, is_at, same_row}
use Rattle.desk_rows.specs.declared.row.Row.TheVariants as rows
use Rattle.desk_rows.specs.laws.ListLaws.{both_ways}
use Rattle.desk_rows.specs.laws.OrderLaws.{precedes_on, at_each, from_each}
use Rattle.desk_rows.specs.laws.PlaceLaws.{at_within}

-- ---- places

pub is_at_read : (xs : List Member) (i : ℕ) (m d : Member) → i < length xs
    → same_row (rows.Member (get_or xs i d)) (rows.Member m) ≡ is_at xs i m
is_at_read [] i m d h = absurd (omega arith)
is_at_read (x ∷ xs) zero m d h = refl
is_at_read (x ∷ xs) (suc i) m d h = is_at_read xs i m d (omega arith)

pub is_at_past : (xs : List Member) (i : ℕ) (m : Member) → length xs ≤ i → is_at xs i m ≡ false
is_at_past [] i m h = refl
is_at_past (x ∷ xs) zero m h = absurd (omega arith)
is_at_past (x ∷ xs) (suc i) m h = is_at_past xs i m (omega arith)

-- the last row is taken first
pub take_last : (ps : List Placed) (p : Placed) (xs : List Member)
    → take_at (ps ++ p ∷ []) xs ≡ take_at ps (remove xs p.place)
take_last [] p xs = refl
take_last (q ∷ ps) p xs = ap (λ ys. remove ys q.place) (take_last ps p xs)

pub can_take_last : (ps : List Placed) (p : Placed) (xs : List Member) → can_take (ps ++ p ∷ []) xs ≡ true
    → (p.place < length xs) × (can_take ps (remove xs p.place) ≡ true)
can_take_last [] p xs h = (at_within xs p.place p.row h, refl)
can_take_last (q ∷ ps) p xs h =
    let both = and_parts (can_take (ps ++ p ∷ []) xs) (is_at (take_at (ps ++ p ∷ []) xs) q.place q.row) h in
    let rest = can_take_last ps p xs both.0 in
    (rest.0, and_from _ _ rest.1 (ap (λ ys. is_at ys q.place q.row) (sym (take_last ps p xs)) ∙ both.1))

-- ---- order

-- a row that stands before the first stands before all
pub before_all : (r : Row) (xs : List Row) → list_all (precedes r) (take 1 xs) ≡ true → in_order xs ≡ true
    → list_all (precedes r) xs ≡ true
before_all r [] h e = refl
before_all r (x ∷ xs) h e =
    let ahead = and_parts (list_all (precedes x) xs) (in_order xs) e in
    let first = (and_parts (precedes r x) true h).0 in
    and_from _ _ first
    (from_each (precedes r) xs (λ q one. precedes_on r x q first (at_each (precedes x) xs q ahead.0 one)))

pub in_order_next : (r : Row) (rs : List Row) → list_all (precedes r) (take 1 rs) ≡ true
    → in_order (r ∷ rs) ≡ in_order rs
in_order_next r rs h =
    both_ways _ _ (λ e. (and_parts (list_all (precedes r) rs) (in_order rs) e).1)
    (λ e. and_from _ _ (before_all r rs h e) e)
