-- A row that is put in its own stead changes nothing.
use Rattle.std.specs.Prelude.{◌||◌, ◌∷◌}
use Rattle.desk_rows.specs.laws.Words.{◌≡◌, true, false, not, cond, List, [], filter, sym, ap, ◌∙◌, inl}
use Rattle.desk_rows.specs.laws.Words.{inr, and_parts, cases_Bool, false_from_ne_true, list_all, precedes}
use Rattle.desk_rows.specs.laws.Words.{key_precedes, in_order, is_in, same_row, with_row, key_of, has_key}
use Rattle.desk_rows.specs.declared.row.Row.{Row}
use Rattle.desk_rows.specs.laws.Equal.{same_row_is, its_key, not_before_itself, key_itself}
use Rattle.desk_rows.specs.laws.ListLaws.{true_false}
use Rattle.desk_rows.specs.laws.OrderLaws.{at_each, from_each, one_way, in_front, filter_all}

-- of two rows of which one stands before the other, neither has the other's key
behind_key : (a b : Row) → precedes a b ≡ true → has_key (key_of a) b ≡ false
behind_key a b h =
    false_from_ne_true (has_key (key_of a) b) (λ e.
    true_false (sym h ∙ ap (key_precedes (key_of a)) (its_key (key_of a) b e) ∙ not_before_itself a))

before_key : (a b : Row) → precedes a b ≡ true → has_key (key_of b) a ≡ false
before_key a b h =
    false_from_ne_true (has_key (key_of b) a) (λ e.
    true_false (sym h ∙ ap (λ k. key_precedes k (key_of b)) (its_key (key_of b) a e) ∙ not_before_itself b))

pub put_again : (r : Row) (xs : List Row) → in_order xs ≡ true → is_in xs r ≡ true
    → with_row r (filter (λ x. not (has_key (key_of r) x)) xs) ≡ xs
put_again r [] h one = absurd (true_false (sym one))
put_again r (x ∷ xs) h one =
    let both = and_parts (list_all (precedes x) xs) (in_order xs) h in
    let left = filter (λ y. not (has_key (key_of r) y)) xs in
    elim (cases_Bool (same_row r x)) [
      | inl e ↦
          let is : r ≡ x = same_row_is r x e in
          let own : has_key (key_of r) x ≡ true = ap (λ z. has_key (key_of z) x) is ∙ key_itself (key_of x) in
          let others : list_all (λ y. not (has_key (key_of r) y)) xs ≡ true =
          from_each (λ y. not (has_key (key_of r) y)) xs (λ q in_xs.
          ap not (ap (λ z. has_key (key_of z) q) is ∙ behind_key x q (at_each (precedes x) xs q both.0 in_xs))) in
          ap (λ b. with_row r (cond (not b) (x ∷ left) left)) own
          ∙ ap (with_row r) (filter_all (λ y. not (has_key (key_of r) y)) xs others)
          ∙ in_front r xs (ap (λ z. list_all (precedes z) xs) is ∙ both.0)
          ∙ ap (λ z. z ∷ xs) is
      | inr e ↦
          let rest : is_in xs r ≡ true = sym (ap (λ b. b || is_in xs r) e) ∙ one in
          let first : precedes x r ≡ true = at_each (precedes x) xs r both.0 rest in
          ap (λ b. with_row r (cond (not b) (x ∷ left) left)) (before_key x r first)
          ∙ ap (λ b. cond b (r ∷ x ∷ left) (x ∷ with_row r left)) (one_way x r first)
          ∙ ap (λ ys. x ∷ ys) (put_again r xs both.1 rest)
    ]
