-- The words of a line.
use Rattle.std.proofs.Common.{◌≡◌, ℕ, zero, suc, ◌+◌, ◌-◌, ◌<◌, Bool, not, cond, List, [], ◌∷◌, map, refl, ap, arith}
use Rattle.std.specs.List.{position, position_or_len}
use Rattle.std.specs.Option.{option_and_then}
use Rattle.std.proofs.lemmas.List.{length-map}
use Rattle.desk_http.specs.Readings.{behind, behind_first}

-- a word further on is one word less behind the first
pub behind_step : (count : ℕ) (line : List ℕ) → 0 < count
    → behind count line ≡ option_and_then (behind (count - 1)) (behind_first line)
behind_step zero line less = absurd (omega (arith, less))
behind_step (suc count) line less =
    let e : suc count - 1 ≡ count = omega arith in
    rw e refl

-- where the first element stands whose image passes
pub position_or_len_map : {A B : Type 0} (p : B → Bool) (f : A → B) (xs : List A)
    → position_or_len p (map f xs) ≡ position_or_len (λ x. p (f x)) xs
position_or_len_map p f [] = refl
position_or_len_map p f (x ∷ xs) = ap (λ n. cond (not (p (f x))) (1 + n) 0) (position_or_len_map p f xs)

pub position_map : {A B : Type 0} (p : B → Bool) (f : A → B) (xs : List A)
    → position p (map f xs) ≡ position (λ x. p (f x)) xs
position_map p f xs = simp (position_or_len_map p f xs, length-map xs f) refl
