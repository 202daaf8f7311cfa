-- Numbers that are collected one by one.
use Rattle.std.specs.Prelude.{◌≡◌, ℕ, ◌<◌, ◌^◌, Bool, false, nat_eq, if◌then◌else◌, List, [], ◌∷◌, ◌++◌, length}
use Rattle.std.specs.Prelude.{slice_index_or}
use Rattle.std.specs.List.{list_any}

-- the list has this number
abbrev pub has : List ℕ → ℕ → Bool
has numbers n = list_any (nat_eq n) numbers

-- with the number, where it is not there yet
abbrev pub added : List ℕ → ℕ → List ℕ
added numbers n = if has numbers n then numbers else numbers ++ n ∷ []

-- There is a mark for each number of 16 bits, and those of the list are marked.
pub record Marks (marks : List Bool) (numbers : List ℕ) : Type 0 where
  pub all : length marks ≡ 2 ^ 16
  pub marked : (n : ℕ) → n < 2 ^ 16 → slice_index_or marks n false ≡ has numbers n
