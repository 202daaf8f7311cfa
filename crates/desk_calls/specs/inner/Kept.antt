-- What is kept of the calls of a history. No public clause cites this.
use Rattle.std.specs.Prelude.{ℕ, List, [], ◌∷◌}
use Rattle.desk_edit.specs.InForce.{Deed, CarriedOut, TookBack, Entry}
use Rattle.desk_calls.specs.declared.entry.Did.{Did}
use Rattle.desk_calls.specs.declared.entry.Did.TheVariants as did

-- what was kept of a call says what it did
abbrev pub deed_of : {A : Type 0} → Did A → Deed
deed_of (did.Command command) = CarriedOut (command ∷ [])
deed_of (did.Group commands) = CarriedOut commands.items
deed_of (did.Revert number) = TookBack number

-- the entries that are done and those that are undone, and for how many more there is memory at least
pub record EntriesOf : Type 0 where
  pub done : List Entry
  -- the last one was undone last
  pub undone : List Entry
  pub spare : ℕ
