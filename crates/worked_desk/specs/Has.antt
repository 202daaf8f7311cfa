-- Entries among others (own).
use Rattle.std.specs.Prelude.{◌≡◌, ℕ, List, [], Some, slice_get}
use Rattle.call_history.specs.Stamp.{StampOf}
use Rattle.operator_desk.specs.Entry.{EntryOf}

-- the entry stands in the log
abbrev pub Has : List EntryOf → EntryOf → Type 0
Has log entry = (place : ℕ) × (slice_get log place ≡ Some entry)

-- the stamp of a call that nobody names, at moment 0
abbrev pub unnamed : StampOf
unnamed = record { moment = 0; name = [] }
