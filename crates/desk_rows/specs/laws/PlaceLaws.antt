-- Rows taken from their places and put back stand where they stood.
pub use Rattle.desk_rows.specs.laws.ListLaws.{count_next}
use Rattle.std.specs.Prelude.{◌≡◌, ◌<◌, ◌≤◌, ◌∷◌, ◌+◌}
use Rattle.desk_rows.specs.laws.Words.{ℕ, zero, suc, Bool, true, cond, List, [], length, nat_lt, refl, sym, ap, ◌∙◌}
use Rattle.desk_rows.specs.laws.Words.{arith, insert, remove, nat_le, and_parts, length-insert, length-remove}
use Rattle.desk_rows.specs.laws.Words.{nat_tests, sum_by-IsPermutation, IsPermutation-insert, list_all, count_by}
use Rattle.desk_rows.specs.laws.Words.{Placed, MemberRow as Member, take_at, can_take, can_put, places_rise, put_within}
use Rattle.desk_rows.specs.laws.Words.{is_at, put_at}
use Rattle.desk_rows.specs.declared.row.Row.TheVariants as rows
use Rattle.desk_rows.specs.laws.Equal.{same_row_is, row_itself}

inner : (a b : Member) → rows.Member a ≡ rows.Member b → a ≡ b
inner a b e = cc

pub insert-remove : (xs : List Member) (i : ℕ) (m : Member) → is_at xs i m ≡ true → insert (remove xs i) i m ≡ xs
insert-remove [] i m h = cc
insert-remove (x ∷ xs) zero m h = ap (λ y. y ∷ xs) (sym (inner x m (same_row_is (rows.Member x) (rows.Member m) h)))
insert-remove (x ∷ xs) (suc i) m h =
    let e : insert (remove xs i) i m ≡ xs = insert-remove xs i m h in ap (λ ys. x ∷ ys) e

pub remove-insert : (xs : List Member) (i : ℕ) (m : Member) → i ≤ length xs → remove (insert xs i m) i ≡ xs
remove-insert [] zero m h = refl
remove-insert [] (suc i) m h = absurd (omega arith)
remove-insert (x ∷ xs) zero m h = refl
remove-insert (x ∷ xs) (suc i) m h =
    let e : remove (insert xs i m) i ≡ xs = remove-insert xs i m (omega arith) in ap (λ ys. x ∷ ys) e

pub is_at-insert : (xs : List Member) (i : ℕ) (m : Member) → i ≤ length xs → is_at (insert xs i m) i m ≡ true
is_at-insert [] zero m h = row_itself (rows.Member m)
is_at-insert [] (suc i) m h = absurd (omega arith)
is_at-insert (x ∷ xs) zero m h = row_itself (rows.Member m)
is_at-insert (x ∷ xs) (suc i) m h = is_at-insert xs i m (omega arith)

pub at_within : (xs : List Member) (i : ℕ) (m : Member) → is_at xs i m ≡ true → i < length xs
at_within [] i m h = cc
at_within (x ∷ xs) zero m h = omega arith
at_within (x ∷ xs) (suc i) m h = let l = at_within xs i m h in omega arith

-- put back where they were taken from
pub put_at-take_at : (ps : List Placed) (xs : List Member) → can_take ps xs ≡ true → put_at ps (take_at ps xs) ≡ xs
put_at-take_at [] xs h = refl
put_at-take_at (p ∷ ps) xs h = grind (arith, h, insert-remove (take_at ps xs) p.place p.row, put_at-take_at ps xs)

pub take_at-put_at : (ps : List Placed) (xs : List Member) → can_put ps xs ≡ true → take_at ps (put_at ps xs) ≡ xs
take_at-put_at [] xs h = refl
take_at-put_at (p ∷ ps) xs h =
    grind (arith, nat_tests, h, remove-insert xs p.place p.row, take_at-put_at ps (insert xs p.place p.row))

pub can_take-put_at : (ps : List Placed) (xs : List Member) → can_put ps xs ≡ true → can_take ps (put_at ps xs) ≡ true
can_take-put_at [] xs h = refl
can_take-put_at (p ∷ ps) xs h =
    grind (
      arith,
      nat_tests,
      h,
      is_at-insert xs p.place p.row,
      take_at-put_at ps (insert xs p.place p.row),
      can_take-put_at ps (insert xs p.place p.row),
    )

pub can_put-take_at : (ps : List Placed) (xs : List Member) → can_take ps xs ≡ true → can_put ps (take_at ps xs) ≡ true
can_put-take_at [] xs h = refl
can_put-take_at (p ∷ ps) xs h =
    grind (
      arith,
      nat_tests,
      h,
      at_within (take_at ps xs) p.place p.row,
      length-remove (take_at ps xs) p.place,
      insert-remove (take_at ps xs) p.place p.row,
      can_put-take_at ps xs,
    )

-- how many rows pass, after rows were taken and put
count_by-insert : (q : Member → Bool) (xs : List Member) (i : ℕ) (m : Member)
    → count_by q (insert xs i m) ≡ count_by q (m ∷ xs)
count_by-insert q xs i m =
    sum_by-IsPermutation (λ x. cond (q x) 1 0) (m ∷ xs) (insert xs i m) (IsPermutation-insert xs i m)

pub count_by-put_at : (q : Member → Bool) (ps : List Placed) (xs : List Member) → can_put ps xs ≡ true
    → count_by q (put_at ps xs) ≡ count_by q xs + count_by (λ p. q p.row) ps
count_by-put_at q [] xs h = omega arith
count_by-put_at q (p ∷ ps) xs h =
    let both = and_parts (nat_le p.place (length xs)) (can_put ps (insert xs p.place p.row)) h in
    omega (
      arith,
      count_by-put_at q ps (insert xs p.place p.row) both.1,
      count_by-insert q xs p.place p.row,
      count_next q p.row xs,
      count_next (λ p. q p.row) p ps,
    )

pub count_by-take_at : (q : Member → Bool) (ps : List Placed) (xs : List Member) → can_take ps xs ≡ true
    → count_by q (take_at ps xs) + count_by (λ p. q p.row) ps ≡ count_by q xs
count_by-take_at q ps xs h =
    sym (count_by-put_at q ps (take_at ps xs) (can_put-take_at ps xs h)) ∙ ap (count_by q) (put_at-take_at ps xs h)

pub length-put_at : (ps : List Placed) (xs : List Member) → can_put ps xs ≡ true
    → length (put_at ps xs) ≡ length xs + length ps
length-put_at [] xs h = omega arith
length-put_at (p ∷ ps) xs h =
    grind (arith, nat_tests, h, length-put_at ps (insert xs p.place p.row), length-insert xs p.place p.row)

pub length-take_at : (ps : List Placed) (xs : List Member) → can_take ps xs ≡ true
    → length (take_at ps xs) + length ps ≡ length xs
length-take_at ps xs h =
    sym (length-put_at ps (take_at ps xs) (can_put-take_at ps xs h)) ∙ ap length (put_at-take_at ps xs h)

pub can_put_within : (ps : List Placed) (xs : List Member) → can_put ps xs ≡ put_within (length xs) ps
can_put_within [] xs = refl
can_put_within (p ∷ ps) xs =
    grind (arith, nat_tests, can_put_within ps (insert xs p.place p.row), length-insert xs p.place p.row)

is_at-remove : (xs : List Member) (i k : ℕ) (m : Member) → k < i → is_at (remove xs i) k m ≡ is_at xs k m
is_at-remove xs zero k m h = absurd (omega arith)
is_at-remove [] (suc i) k m h = refl
is_at-remove (x ∷ xs) (suc i) zero m h = refl
is_at-remove (x ∷ xs) (suc i) (suc k) m h = is_at-remove xs i k m (omega arith)

is_at-take_at : (ps : List Placed) (xs : List Member) (k : ℕ) (m : Member) → list_all (λ q. nat_lt k q.place) ps ≡ true
    → is_at (take_at ps xs) k m ≡ is_at xs k m
is_at-take_at [] xs k m h = refl
is_at-take_at (p ∷ ps) xs k m h =
    grind (arith, nat_tests, h, is_at-remove (take_at ps xs) p.place k m, is_at-take_at ps xs k m)

-- the places are those of the whole list
pub can_take_places : (ps : List Placed) (xs : List Member) → places_rise ps ≡ true
    → can_take ps xs ≡ list_all (λ p. is_at xs p.place p.row) ps
can_take_places [] xs h = refl
can_take_places (p ∷ ps) xs h = grind (arith, h, can_take_places ps xs, is_at-take_at ps xs p.place p.row)
