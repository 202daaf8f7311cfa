-- What is judged of a revert: by the edits of a history's entries, and by a desk. No public clause cites this.
use Rattle.std.specs.Prelude.{ℕ, nat_eq, Bool, false, not, ◌&&◌, ◌||◌, List, [], ◌∷◌, Option, None, if◌then◌else◌}
use Rattle.std.specs.Option.{option_or}
use Rattle.desk_rows.specs.declared.key.Key.{Key}
use Rattle.desk_rows.specs.Desk.{Desk}
use Rattle.desk_rows.specs.Edit.{EditOf}
use Rattle.desk_edit.specs.declared.refusal.Refusal.{Refusal}
use Rattle.desk_edit.specs.AsIf.{moved_keys}
use Rattle.desk_edit.specs.InForce.{Entry, carries, is_struck, struck_by, desk_in_force, kept, again}
use Rattle.desk_edit.specs.Reverts.{told_elsewhere, conflict, elsewhere, as_if, late_revert_refused}
use Rattle.desk_revert.specs.Moving.{bring_or_take}
use Rattle.desk_calls.specs.Desk.{DeskOf}

-- of entries that stand the newest first, with their edits, one that isn't carried out again brought or took the row of
-- this key
abbrev pub touches : List ℕ → Key → List Entry → List (List EditOf) → Bool
touches struck key [] edits = false
touches struck key (e ∷ es) [] = false
touches struck key (e ∷ es) (edit ∷ edits) =
    ((is_struck struck e.number || not (carries e.deed)) && bring_or_take edit key)
    || touches (if is_struck struck e.number then struck else struck_by e.deed struck) key es edits

-- the first of these keys that is told, though no such entry brought or took its row
abbrev pub elsewhere_by : ℕ → List Entry → List (List EditOf) → List Key → Option Refusal
elsewhere_by number es edits [] = None
elsewhere_by number es edits (key ∷ ks) =
    option_or (if touches (number ∷ []) key es edits then None else told_elsewhere key)
    (elsewhere_by number es edits ks)

-- of entries that stand the newest first, the newest one has this number and carried commands out
abbrev pub is_newest : ℕ → List Entry → Bool
is_newest number [] = false
is_newest number (e ∷ es) = nat_eq e.number number && carries e.deed

-- ---- of a desk

-- the desk as if the call of this number had never been made
abbrev pub rows_without : DeskOf → ℕ → Desk
rows_without d number = as_if d.history.start d.history.done number

-- what stands in the way of carrying later commands out again
abbrev pub way_of : DeskOf → ℕ → Option Refusal
way_of d number = conflict (desk_in_force d.history.start (kept number d.history.done)) (again number d.history.done)

-- who would come or go without it
abbrev pub away_of : DeskOf → ℕ → Option Refusal
away_of d number =
    elsewhere d.history.start number d.history.done (moved_keys d.desk (as_if d.history.start d.history.done number))

-- the first reason against taking the call back that is judged with memory
abbrev pub late_refused : DeskOf → ℕ → Option Refusal
late_refused d number = late_revert_refused d.history.start d.desk d.history.done number
