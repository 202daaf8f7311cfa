-- Lists of numbers are told apart and ordered as they should be.
use Rattle.std.specs.Prelude.{◌≡◌, ◌≤◌, ◌||◌, ◌∷◌, ◌&&◌}
use Rattle.desk_rows.specs.laws.Words.{ℕ, true, false, List, [], length, nat_lt, refl, sym, ap, ◌∙◌, arith, nat_eq}
use Rattle.desk_rows.specs.laws.Words.{and_right, nat_tests, bytes_eq-Decides, bytes_eq, numbers_precede, same_numbers}
use Rattle.desk_rows.specs.laws.ListLaws.{true_false}

-- ---- the same numbers

same_step : (x y : ℕ) (xs ys : List ℕ) → same_numbers (x ∷ xs) (y ∷ ys) ≡ (nat_eq x y && same_numbers xs ys)
same_step x y [] [] = elim (nat_eq x y) as (λ b. b ≡ (b && true)) [ true ↦ refl | false ↦ refl ]
same_step x y _ _ = refl

pub same_numbers-bytes_eq : (xs ys : List ℕ) → same_numbers xs ys ≡ bytes_eq xs ys
same_numbers-bytes_eq [] [] = refl
same_numbers-bytes_eq [] (y ∷ ys) = refl
same_numbers-bytes_eq (x ∷ []) [] = refl
same_numbers-bytes_eq (x ∷ a ∷ xs) [] = refl
same_numbers-bytes_eq (x ∷ xs) (y ∷ ys) = same_step x y xs ys ∙ ap (λ b. nat_eq x y && b) (same_numbers-bytes_eq xs ys)

pub same_numbers_is : (xs ys : List ℕ) → same_numbers xs ys ≡ true → xs ≡ ys
same_numbers_is xs ys e = (bytes_eq-Decides xs ys).0 (sym (same_numbers-bytes_eq xs ys) ∙ e)

pub numbers_themselves : (xs : List ℕ) → same_numbers xs xs ≡ true
numbers_themselves xs = same_numbers-bytes_eq xs xs ∙ (bytes_eq-Decides xs xs).1 refl

-- ---- their order

order_step : (x y : ℕ) (xs ys : List ℕ)
    → numbers_precede (x ∷ xs) (y ∷ ys) ≡ (nat_lt x y || (nat_eq x y && numbers_precede xs ys))
order_step x y [] [] =
    sym (ap (λ b. nat_lt x y || b) (and_right (nat_eq x y) false refl)
    ∙ elim (nat_lt x y) as (λ b. (b || false) ≡ b) [ true ↦ refl | false ↦ refl ])
order_step x y _ _ = refl

pub numbers_not_before : (xs : List ℕ) → numbers_precede xs xs ≡ false
numbers_not_before [] = refl
numbers_not_before (x ∷ xs) = grind (arith, nat_tests, order_step x x xs xs, numbers_not_before xs)

none_before_nothing : (xs : List ℕ) → numbers_precede xs [] ≡ false
none_before_nothing [] = refl
none_before_nothing (x ∷ []) = refl
none_before_nothing (x ∷ a ∷ xs) = refl

pub numbers_precede_on : (xs ys zs : List ℕ) → numbers_precede xs ys ≡ true → numbers_precede ys zs ≡ true
    → numbers_precede xs zs ≡ true
numbers_precede_on [] ys zs e f = absurd (true_false (sym e))
numbers_precede_on (x ∷ xs) [] zs e f = absurd (true_false (sym e ∙ none_before_nothing (x ∷ xs)))
numbers_precede_on (x ∷ xs) (y ∷ ys) [] e f = absurd (true_false (sym f ∙ none_before_nothing (y ∷ ys)))
numbers_precede_on (x ∷ xs) (y ∷ ys) (z ∷ zs) e f =
    grind (
      arith,
      nat_tests,
      e,
      f,
      order_step x y xs ys,
      order_step y z ys zs,
      order_step x z xs zs,
      numbers_precede_on xs ys zs,
    )

-- of two lists of one length that differ one stands before the other
pub one_list_precedes : (xs ys : List ℕ) → length xs ≡ length ys → same_numbers xs ys ≡ false
    → (numbers_precede xs ys || numbers_precede ys xs) ≡ true
one_list_precedes [] [] l e = absurd (true_false e)
one_list_precedes [] (y ∷ ys) l e = absurd (omega (arith, l))
one_list_precedes (x ∷ xs) [] l e = absurd (omega (arith, l))
one_list_precedes (x ∷ xs) (y ∷ ys) l e =
    grind
    (arith, nat_tests, l, e, same_step x y xs ys, order_step x y xs ys, order_step y x ys xs, one_list_precedes xs ys)

-- where a list precedes another its first number is not the greater
pub first_rises : (x y : ℕ) (xs ys : List ℕ) → numbers_precede (x ∷ xs) (y ∷ ys) ≡ true → x ≤ y
first_rises x y xs ys e = grind (arith, nat_tests, e, order_step x y xs ys)
