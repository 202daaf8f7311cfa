-- Edits that follow the entries of a history (own).
use Rattle.std.specs.Prelude.{◌≡◌, Bool, true, List, [], ◌∷◌, ◌++◌, reverse}
use Rattle.desk_rows.specs.Desk.{Desk}
use Rattle.desk_rows.specs.Edit.{EditOf}
use Rattle.desk_edit.specs.InForce.{Entry, desk_in_force}

-- one list of edits for each entry, in order, behind these entries: it fits the desk of those before it, and leads to
-- the desk of those with it
abbrev pub Follows : (Desk → List EditOf → Bool) → (Desk → List EditOf → Desk) → Desk → List Entry → List Entry
    → List (List EditOf) → Type 0
Follows fits after start before [] [] = Unit {0}
Follows fits after start before (entry ∷ entries) (es ∷ edits) =
    (fits (desk_in_force start before) es ≡ true)
    × (after (desk_in_force start before) es ≡ desk_in_force start (before ++ entry ∷ []))
    × Follows fits after start (before ++ entry ∷ []) entries edits
Follows fits after start before [] (es ∷ edits) = ⊥
Follows fits after start before (entry ∷ entries) [] = ⊥

-- of a history: the edits of the entries that are done, and those of the undone ones, which lead on from there, the
-- last one first
pub record Stands (fits : Desk → List EditOf → Bool) (after : Desk → List EditOf → Desk) (start : Desk)
    (done undone : List Entry) (edits back : List (List EditOf)) : Type 0 where
  pub behind : Follows fits after start [] done edits
  pub ahead : Follows fits after start done (reverse undone) (reverse back)
