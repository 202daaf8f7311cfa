-- Where members stand, found by their numbers. No public clause cites it.
use Rattle.std.specs.Prelude.{◌≡◌, ℕ, ◌+◌, List, [], ◌∷◌, nat_eq, Option}
use Rattle.std.specs.Option.{option_map}
use Rattle.std.specs.List.{find}
use Rattle.std.specs.List.Sorted.{IsNonDecreasingBy}
use Rattle.desk_rows.specs.declared.row.Member.{Member}
use Rattle.desk_rows.specs.declared.tables.index.IndexEntry.{IndexEntry}
use Rattle.desk_rows.specs.Places.{place_in}

-- the members' numbers with their places, which count from p
abbrev pub entries_from : ℕ → List Member → List IndexEntry
entries_from p [] = []
entries_from p (m ∷ ms) = record { member = m.member; place = p } ∷ entries_from (p + 1) ms

-- the first entry of a number
abbrev pub entry_in : List IndexEntry → ℕ → Option IndexEntry
entry_in es n = find (λ e. nat_eq e.member n) es

-- an index of members: sorted by number, and it gives each member's place
pub record IsIndex (ms : List Member) (es : List IndexEntry) : Type 0 where
  pub sorted : IsNonDecreasingBy (λ e. e.member) es
  pub places : (n : ℕ) → option_map (λ e. e.place) (entry_in es n) ≡ place_in ms n
