-- Where a piece stands while it is read.
use Rattle.std.specs.Prelude.{◌≡◌, ℕ, Bool, true, false, List, [], ◌++◌}
use Rattle.operator_lines.specs.Cut.{Cut, lines_in}
use Rattle.operator_lines.specs.Fed.{Kept, Stands}

-- kept of a stream in these parts, whose lines are those before and those given since
pub record Holds (before : List (List ℕ)) (c : Cut) (k : Kept) (given : List (List ℕ)) : Type 0 where
  pub stands : Stands c k
  pub lines : lines_in c ≡ before ++ given

-- kept, where what was carried over stands before it
abbrev pub in_place : List ℕ → Kept → Kept
in_place carried k = record { pending = carried ++ k.pending; too_long = k.too_long }

-- what is still carried over: nothing when a line has ended
abbrev pub unless : Bool → List ℕ → List ℕ
unless true carried = []
unless false carried = carried
