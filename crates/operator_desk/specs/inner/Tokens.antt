-- Write-once cells, and the tokens that show what stands in them.
use Rattle.std.specs.Prelude.{◌≡◌, ℕ, ◌≤◌, List, length, map, take, IfSome, Option, Some, slice_get}
use Rattle.std.specs.Option.{option_map}
use Rattle.std.specs.Sync.OnceLock.{Named}
use Rattle.std.specs.declared.sync.OnceToken.{OnceToken}
use Rattle.operator_desk.specs.Entry.{EntryOf}

-- which cells these are
abbrev pub names : List Named → List ℕ
names cells = map (λ (c : Named). c.id) cells

-- of which cells these tokens are
abbrev pub marks : List (OnceToken EntryOf) → List ℕ
marks tokens = map (λ (t : OnceToken EntryOf). t.of) tokens

-- what these tokens show
abbrev pub shown : List (OnceToken EntryOf) → List EntryOf
shown tokens = map (λ (t : OnceToken EntryOf). t.value) tokens

-- what a token shows, where there is one
abbrev pub shown_next : Option (OnceToken EntryOf) → Option EntryOf
shown_next next = option_map (λ (t : OnceToken EntryOf). t.value) next

-- the tokens are those of the first cells
pub record AreFirst (cells : List ℕ) (tokens : List (OnceToken EntryOf)) : Type 0 where
  pub known : marks tokens ≡ take (length tokens) cells
  pub few : length tokens ≤ length cells

-- the token is of the cell after these
abbrev pub IsNext : List ℕ → List (OnceToken EntryOf) → OnceToken EntryOf → Type 0
IsNext cells tokens next = slice_get cells (length tokens) ≡ Some next.of

-- the tokens of a desk or a seat, with capacity for those of all cells
pub record AreTokens (cells : List ℕ) (tokens : List (OnceToken EntryOf)) (capacity : ℕ)
    (after : Option (OnceToken EntryOf)) : Type 0 where
  pub first : AreFirst cells tokens
  pub few : length cells ≤ capacity
  pub next : IfSome after (IsNext cells tokens)
