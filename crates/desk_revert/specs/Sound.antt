-- Histories as accepted calls make them (own).
use Rattle.std.specs.Prelude.{◌≡◌, true, ℕ, ◌&&◌, List, [], ◌∷◌, ◌++◌, nat_le, reverse}
use Rattle.std.specs.List.{list_all}
use Rattle.desk_rows.specs.Desk.{Desk, good}
use Rattle.desk_edit.specs.InForce.{Entry, falls, desk_in_force}
use Rattle.desk_edit.specs.Calls.{CallHistory}

-- the desk of these entries is good, and so is each to which those behind them lead on
abbrev pub AllGood : Desk → List Entry → List Entry → Type 0
AllGood start before [] = good (desk_in_force start before) ≡ true
AllGood start before (e ∷ es) = (good (desk_in_force start before) ≡ true) × AllGood start (before ++ e ∷ []) es

-- entries that stand the newest first: their numbers fall, and are of the first calls, this many
abbrev pub AreNumbered : ℕ → List Entry → Type 0
AreNumbered accepted es = (list_all (λ e. nat_le e.number accepted) es && falls es) ≡ true

-- all desks on the way are good, also those to which what was undone leads on; the entries have the numbers of accepted
-- calls
pub record IsSound (h : CallHistory) : Type 0 where
  pub good : AllGood h.start [] (h.done ++ reverse h.undone)
  pub numbered : AreNumbered h.accepted (h.undone ++ reverse h.done)
