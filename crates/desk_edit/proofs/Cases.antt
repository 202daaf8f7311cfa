-- Lists of cases, and the first refusal of one.
use Rattle.std.specs.Prelude.{◌≡◌, ◌∷◌, ◌++◌}
use Rattle.std.specs.Option.{option_or}
use Rattle.desk_edit.proofs.Words.{Bool, false, List, [], None, refl, arith, first_case, Reason}

pub first_of_both : (xs ys : List (Bool × Reason)) → first_case (xs ++ ys) ≡ option_or (first_case xs) (first_case ys)
first_of_both [] ys = refl
first_of_both (x ∷ xs) ys = let rest = first_of_both xs ys in grind (arith, rest)

-- no case holds
abbrev pub NoneHolds : List (Bool × Reason) → Type 0
NoneHolds [] = Unit {0}
NoneHolds (c ∷ cs) = (c.0 ≡ false) × NoneHolds cs

pub none_holds : (cs : List (Bool × Reason)) → first_case cs ≡ None → NoneHolds cs
none_holds [] h = tt
none_holds (c ∷ cs) h = let rest = none_holds cs in grind (arith, rest, h)

-- of two lists of cases
pub none_of_both : (xs ys : List (Bool × Reason)) → NoneHolds (xs ++ ys) → NoneHolds xs × NoneHolds ys
none_of_both [] ys h = (tt, h)
none_of_both (x ∷ xs) ys h = let rest = none_of_both xs ys h.1 in ((h.0, rest.0), rest.1)
