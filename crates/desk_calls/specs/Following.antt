-- When a desk is the one that a history of calls leads to (own).
use Rattle.std.specs.Prelude.{◌≡◌, ◌≢◌, true, List, [], ◌∷◌, ◌++◌, reverse, None, Some}
use Rattle.desk_rows.specs.Desk.{Desk}
use Rattle.desk_rows.specs.Edit.{EditOf}
use Rattle.desk_edit.specs.Asked.{CallOf as Call}
use Rattle.desk_edit.specs.Asked.CallOf.{Apply, Group, Undo, Redo, Revert}
use Rattle.desk_edit.specs.declared.refusal.Refusal.{Refusal}
use Rattle.desk_edit.specs.declared.refusal.Refusal.TheVariants.{OutOfMemory}
use Rattle.desk_edit.specs.InForce.{Entry, desk_in_force}
use Rattle.desk_edit.specs.Calls.{CallHistory, desk_now, refusal_of, early_refusal_of}
use Rattle.desk_calls.specs.Edits.{fits, after}
use Rattle.desk_calls.specs.Desk.{DeskOf}

-- one list of edits for each entry, in order, behind these: it fits the desk of the entries before it, and leads to the
-- desk of those with it
abbrev pub Follows : Desk → List Entry → List Entry → List (List EditOf) → Type 0
Follows start before [] [] = Unit {0}
Follows start before (entry ∷ entries) (es ∷ edits) =
    (fits (desk_in_force start before) es ≡ true)
    × (after (desk_in_force start before) es ≡ desk_in_force start (before ++ entry ∷ []))
    × Follows start (before ++ entry ∷ []) entries edits
Follows start before [] (es ∷ edits) = ⊥
Follows start before (entry ∷ entries) [] = ⊥

-- the desk is where this history of calls leads: its version, its rows, and one list of edits for each entry; the
-- undone ones lead on from the desk, the last one first
pub record HasCalled (d : DeskOf) (h : CallHistory) : Type 0 where
  pub version : d.version ≡ h.accepted
  pub history : d.history ≡ h
  pub desk : d.desk ≡ desk_now h
  pub follows : Follows h.start [] h.done d.done
  pub ahead : Follows h.start h.done (reverse h.undone) (reverse d.undone)

-- this is why the call is refused by its history: the first reason, or else out of memory, which an undo or a redo
-- never is
abbrev pub IsTold : CallHistory → Call → Refusal → Type 0
IsTold h (Apply command) why =
    (why ≢ OutOfMemory → refusal_of h (Apply command) ≡ Some why)
    × (why ≡ OutOfMemory → refusal_of h (Apply command) ≡ None)
IsTold h (Group commands) why =
    (why ≢ OutOfMemory → refusal_of h (Group commands) ≡ Some why)
    × (why ≡ OutOfMemory → early_refusal_of h (Group commands) ≡ None)
IsTold h (Undo last) why = refusal_of h (Undo last) ≡ Some why
IsTold h (Redo last) why = refusal_of h (Redo last) ≡ Some why
IsTold h (Revert number) why =
    (why ≢ OutOfMemory → refusal_of h (Revert number) ≡ Some why)
    × (why ≡ OutOfMemory → early_refusal_of h (Revert number) ≡ None)
