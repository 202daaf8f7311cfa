-- Where the calls of one operator stand in a log (own).
use Rattle.std.specs.Prelude.{ℕ, ◌+◌, nat_eq, List, [], ◌∷◌, if◌then◌else◌}
use Rattle.operator_desk.specs.Entry.{EntryOf}

-- the numbers of an operator's calls, where the first call of the list has this number
abbrev pub numbers_from : ℕ → ℕ → List EntryOf → List ℕ
numbers_from first op [] = []
numbers_from first op (e ∷ es) =
    if nat_eq e.op op then first ∷ numbers_from (first + 1) op es else numbers_from (first + 1) op es

-- the numbers of an operator's calls in a log, of which the first call is number 1
abbrev pub numbers : ℕ → List EntryOf → List ℕ
numbers op log = numbers_from 1 op log
