-- Accepted calls with their numbers (own).
use Rattle.std.specs.Prelude.{◌≡◌, ℕ, ◌+◌, List, [], ◌∷◌, map}
use Rattle.desk_edit.specs.Asked.{CallOf}

-- an accepted call: its number, of which the first is 1, who made it, and what it asks
pub record AcceptedOf : Type 0 where
  pub number : ℕ
  pub op : ℕ
  pub call : CallOf

-- the calls alone
abbrev pub calls_of : List AcceptedOf → List CallOf
calls_of made = map (λ (m : AcceptedOf). m.call) made

-- the calls have the numbers from this one on
abbrev pub AreNumbered : ℕ → List AcceptedOf → Type 0
AreNumbered first [] = Unit {0}
AreNumbered first (m ∷ ms) = (m.number ≡ first) × AreNumbered (first + 1) ms
