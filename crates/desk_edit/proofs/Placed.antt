-- Members picked with their places are taken, and put back changed, by one sweep.
use Rattle.std.specs.Prelude.{◌≡◌, ◌+◌, ◌<◌, ◌&&◌, ◌∷◌}
use Rattle.desk_edit.proofs.Words.{ℕ, suc, nat_le, nat_lt, Bool, true, not, cond, List, [], map, filter, length, insert}
use Rattle.desk_edit.proofs.Words.{refl, sym, ap, ◌∙◌, arith, list_all, or_left, or_right, MemberRow, Placed, is_in}
use Rattle.desk_edit.proofs.Words.{is_at, places_rise, take_at, put_at, can_take, can_put, row_itself, placed_from}
use Rattle.desk_rows.specs.declared.row.Row.TheVariants as rows
use Rattle.desk_rows.specs.laws.PlaceLaws.{can_put_within, can_put-take_at, can_take_places}
use Rattle.std.proofs.lemmas.List.Folds.{list_all-map}
use Rattle.desk_rows.specs.inner.judging.Within.{put_within}

-- a member changed, at its place
abbrev pub changed_at : (MemberRow → MemberRow) → Placed → Placed
changed_at f p = record { place = p.place; row = f p.row }

insert_first : (ms : List MemberRow) (m : MemberRow) → insert ms 0 m ≡ m ∷ ms
insert_first [] m = refl
insert_first (x ∷ ms) m = refl

module _ (p : MemberRow → Bool) where
  -- ---- behind one member more each place is one further

  take_further : (j k : ℕ) → j ≡ suc k → (ms : List MemberRow) (x : MemberRow) (ys : List MemberRow)
      → take_at (placed_from j p ms) (x ∷ ys) ≡ x ∷ take_at (placed_from k p ms) ys
  take_further j k e [] x ys = refl
  take_further j k e (m ∷ ms) x ys =
      let rest = take_further (j + 1) (k + 1) (omega (arith, e)) ms x ys in grind (arith, rest, e)

  put_further : (f : MemberRow → MemberRow) (j k : ℕ) → j ≡ suc k
      → (ms : List MemberRow) (x : MemberRow) (ys : List MemberRow) →
      put_at (map (changed_at f) (placed_from j p ms)) (x ∷ ys)
      ≡ x ∷ put_at (map (changed_at f) (placed_from k p ms)) ys
  put_further f j k e [] x ys = refl
  put_further f j k e (m ∷ ms) x ys =
      let stays = put_further f (j + 1) (k + 1) (omega (arith, e)) ms x ys in
      let comes = put_further f (j + 1) (k + 1) (omega (arith, e)) ms x (insert ys k (f m)) in
      grind (arith, stays, comes, e)

  at_further : (j k : ℕ) → j ≡ suc k → (ms : List MemberRow) (x : MemberRow) (ys : List MemberRow) →
      list_all (λ q. is_at (x ∷ ys) q.place q.row) (placed_from j p ms)
      ≡ list_all (λ q. is_at ys q.place q.row) (placed_from k p ms)
  at_further j k e [] x ys = refl
  at_further j k e (m ∷ ms) x ys =
      let rest = at_further (j + 1) (k + 1) (omega (arith, e)) ms x ys in grind (arith, rest, e)

  pub picked : (t : MemberRow → Bool) (n : ℕ) (ms : List MemberRow)
      → ((m : MemberRow) → is_in (map rows.Member ms) (rows.Member m) ≡ true → p m ≡ true → t m ≡ true)
      → list_all (λ (q : Placed). t q.row) (placed_from n p ms) ≡ true
  picked t n [] each = refl
  picked t n (m ∷ ms) each =
      let rest = picked t (n + 1) ms (λ x one. each x (or_right _ _ one)) in
      let here = each m (or_left _ _ (row_itself (rows.Member m))) in
      grind (arith, rest, here)

  -- ---- places rise

  above : (n k : ℕ) (ms : List MemberRow) → n < k
      → list_all (λ (q : Placed). nat_lt n q.place) (placed_from k p ms) ≡ true
  above n k [] less = refl
  above n k (m ∷ ms) less = let rest = above n (k + 1) ms (omega (arith, less)) in grind (arith, rest, less)

  rising : (k : ℕ) (ms : List MemberRow) → places_rise (placed_from k p ms) ≡ true
  rising k [] = refl
  rising k (m ∷ ms) =
      let rest = rising (k + 1) ms in let over = above k (k + 1) ms (omega arith) in grind (arith, rest, over)

  -- ---- of a whole list

  pub all_rise : (ms : List MemberRow) → places_rise (placed_from 0 p ms) ≡ true
  all_rise ms = rising 0 ms

  pub back_rise : (f : MemberRow → MemberRow) (ms : List MemberRow)
      → places_rise (map (changed_at f) (placed_from 0 p ms)) ≡ true
  back_rise f ms = same (placed_from 0 p ms) ∙ rising 0 ms where
    same : (ps : List Placed) → places_rise (map (changed_at f) ps) ≡ places_rise ps
    same [] = refl
    same (q ∷ ps) = (λ i. list_all-map (λ (s : Placed). nat_lt q.place s.place) (changed_at f) ps i && same ps i)

  pub taken_all : (ms : List MemberRow) → take_at (placed_from 0 p ms) ms ≡ filter (λ m. not (p m)) ms
  taken_all [] = refl
  taken_all (m ∷ ms) = let rest = take_further 1 0 refl ms m ms in let all = taken_all ms in grind (arith, rest, all)

  one_there : (m : MemberRow) (ms : List MemberRow)
      → list_all (λ q. is_at (m ∷ ms) q.place q.row) (placed_from 1 p ms) ≡ true
      → list_all (λ q. is_at (m ∷ ms) q.place q.row) (placed_from 0 p (m ∷ ms)) ≡ true
  one_there m ms rest = grind (arith, rest, row_itself (rows.Member m))

  all_there : (ms : List MemberRow) → list_all (λ q. is_at ms q.place q.row) (placed_from 0 p ms) ≡ true
  all_there [] = refl
  all_there (m ∷ ms) = one_there m ms (at_further 1 0 refl ms m ms ∙ all_there ms)

  pub can_take_all : (ms : List MemberRow) → can_take (placed_from 0 p ms) ms ≡ true
  can_take_all ms = can_take_places (placed_from 0 p ms) ms (all_rise ms) ∙ all_there ms

  -- the rows that were taken, put back changed
  pub put_back_all : (f : MemberRow → MemberRow) (ms : List MemberRow)
      → put_at (map (changed_at f) (placed_from 0 p ms)) (filter (λ m. not (p m)) ms) ≡ map (λ m. cond (p m) (f m) m) ms
  put_back_all f [] = refl
  put_back_all f (m ∷ ms) =
      let left = filter (λ m. not (p m)) ms in
      let comes = put_further f 1 0 refl ms (f m) left in
      let stays = put_further f 1 0 refl ms m left in
      let all = put_back_all f ms in
      grind (arith, comes, stays, all, insert_first left (f m))

  pub can_put_all : (f : MemberRow → MemberRow) (ms : List MemberRow)
      → can_put (map (changed_at f) (placed_from 0 p ms)) (filter (λ m. not (p m)) ms) ≡ true
  can_put_all f ms =
      let left = filter (λ m. not (p m)) ms in
      can_put_within (map (changed_at f) (placed_from 0 p ms)) left
      ∙ same (length left) (placed_from 0 p ms)
      ∙ sym (can_put_within (placed_from 0 p ms) left)
      ∙ ap (can_put (placed_from 0 p ms)) (sym (taken_all ms))
      ∙ can_put-take_at (placed_from 0 p ms) ms (can_take_all ms) where
        same : (n : ℕ) (ps : List Placed) → put_within n (map (changed_at f) ps) ≡ put_within n ps
        same n [] = refl
        same n (q ∷ ps) = ap (λ b. nat_le q.place n && b) (same (n + 1) ps)
