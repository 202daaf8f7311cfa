-- Lists of numbers, which tell keys and rows apart and put them in order.
use Rattle.std.specs.Prelude.{ℕ, Bool, true, false, ◌&&◌, ◌||◌, List, [], ◌∷◌, nat_eq, nat_lt}

-- whether two lists are one: number by number
abbrev pub same_numbers : List ℕ → List ℕ → Bool
same_numbers [] [] = true
same_numbers (x ∷ []) (y ∷ []) = nat_eq x y
same_numbers (x ∷ xs) (y ∷ ys) = nat_eq x y && same_numbers xs ys
same_numbers _ _ = false

-- the lexicographic order of lists of one length: the first numbers that differ decide
abbrev pub numbers_precede : List ℕ → List ℕ → Bool
numbers_precede (x ∷ []) (y ∷ []) = nat_lt x y
numbers_precede (x ∷ xs) (y ∷ ys) = nat_lt x y || (nat_eq x y && numbers_precede xs ys)
numbers_precede _ _ = false
