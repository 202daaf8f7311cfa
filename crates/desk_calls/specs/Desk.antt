-- A desk with its calls: what a call does to it, and why one is refused (own).
use Rattle.std.specs.Prelude.{◌≡◌, ◌≢◌, ℕ, ◌+◌, ◌<◌, true, List, [], ◌∷◌, ◌++◌, length, Option, None, Some}
use Rattle.desk_rows.specs.Desk.{Desk}
use Rattle.desk_rows.specs.Edit.{EditOf}
use Rattle.desk_edit.specs.Asked.{CallOf as Call}
use Rattle.desk_edit.specs.Asked.CallOf.{Apply, Group, Undo, Redo, Revert}
use Rattle.desk_edit.specs.declared.refusal.Refusal.{Refusal}
use Rattle.desk_edit.specs.declared.refusal.Refusal.TheVariants.{OutOfMemory}
use Rattle.desk_edit.specs.Commands.{desk_after}
use Rattle.desk_edit.specs.Groups.{desk_after_all}
use Rattle.desk_edit.specs.InForce.{desk_in_force, carried_out, took_back}
use Rattle.desk_edit.specs.Calls.{CallHistory, call_limit, refusal_at, early_refusal_at}
use Rattle.desk_calls.specs.Edits.{fits, after, inverse}
use Rattle.desk_calls.specs.declared.prepared.Prepared.{Prepared}
use Rattle.desk_calls.specs.declared.prepared.Prepared.TheVariants as prepared

-- a desk: how many calls were accepted, the history of what they did, the desk of its rows, and the edits of each call
-- that is done and of each that is undone
pub record DeskOf : Type 0 where
  pub version : ℕ
  pub history : CallHistory
  pub desk : Desk
  pub done : List (List EditOf)
  -- the last one is the next to be done again
  pub undone : List (List EditOf)
  -- at least this many calls take no memory
  pub spare : ℕ

-- the history, of as many calls as the version says
abbrev pub history_of : DeskOf → CallHistory
history_of d = record d.history { accepted = d.version }

-- the desk is edited, and what was undone is forgotten
abbrev pub DoesEdit : DeskOf → DeskOf → Type 0
DoesEdit old new =
    (es : List EditOf) × (fits old.desk es ≡ true) × (new.desk ≡ after old.desk es) × (new.done ≡ old.done ++ es ∷ [])
    × (new.undone ≡ [])

-- the last edit is taken back: it leads from the new desk to the old one, and its inverse from the old one to the new
abbrev pub UndoesEdit : DeskOf → DeskOf → Type 0
UndoesEdit old new =
    (es : List EditOf) × (old.done ≡ new.done ++ es ∷ []) × (new.undone ≡ old.undone ++ es ∷ [])
    × (old.desk ≡ after new.desk es) × (new.desk ≡ after old.desk (inverse es))

-- the edit that was undone last is done again: it leads from the old desk to the new one, and its inverse back
abbrev pub RedoesEdit : DeskOf → DeskOf → Type 0
RedoesEdit old new =
    (es : List EditOf) × (old.undone ≡ new.undone ++ es ∷ []) × (new.done ≡ old.done ++ es ∷ [])
    × (new.desk ≡ after old.desk es) × (old.desk ≡ after new.desk (inverse es))

-- the first reason for which a call is refused, out of memory apart
abbrev pub call_refused : DeskOf → Call → Option Refusal
call_refused d call = refusal_at (history_of d) d.desk (length d.done) (length d.undone) call

-- the first reason as far as a call is judged when memory may first run out
abbrev pub early_call_refused : DeskOf → Call → Option Refusal
early_call_refused d call = early_refusal_at (history_of d) d.desk (length d.done) (length d.undone) call

-- the desk after taking the call of this number back: the command equations over what is then in force
abbrev pub desk_without : DeskOf → ℕ → Desk
desk_without d number =
    desk_in_force d.history.start (d.history.done ++ took_back (d.history.accepted + 1) number ∷ [])

-- what a call is to do: a command makes of the desk what its equation says, a group what those of its commands say one
-- after another, and a revert what those of all others in force say
abbrev pub Does : DeskOf → DeskOf → Call → Type 0
Does old new (Apply command) = (new.desk ≡ desk_after old.desk command) × DoesEdit old new
Does old new (Group commands) = (new.desk ≡ desk_after_all old.desk commands) × DoesEdit old new
Does old new (Undo last) = UndoesEdit old new
Does old new (Redo last) = RedoesEdit old new
Does old new (Revert number) = (new.desk ≡ desk_without old number) × DoesEdit old new

-- this is why the call is refused: the first reason, or else out of memory, which an undo or a redo never is
abbrev pub IsReason : DeskOf → Call → Refusal → Type 0
IsReason d (Apply command) why =
    (why ≢ OutOfMemory → call_refused d (Apply command) ≡ Some why)
    × (why ≡ OutOfMemory → call_refused d (Apply command) ≡ None)
IsReason d (Group commands) why =
    (why ≢ OutOfMemory → call_refused d (Group commands) ≡ Some why)
    × (why ≡ OutOfMemory → early_call_refused d (Group commands) ≡ None)
IsReason d (Undo last) why = call_refused d (Undo last) ≡ Some why
IsReason d (Redo last) why = call_refused d (Redo last) ≡ Some why
IsReason d (Revert number) why =
    (why ≢ OutOfMemory → call_refused d (Revert number) ≡ Some why)
    × (why ≡ OutOfMemory → early_call_refused d (Revert number) ≡ None)

-- the edits fit the desk, and one more call takes no memory
abbrev pub CanTake : DeskOf → List EditOf → Type 0
CanTake d es = (fits d.desk es ≡ true) × (0 < d.spare)

-- what was prepared does what the call is to do: edits that make of the desk what its equation says, and the entry that
-- will stand for it; or an undo or a redo of what there is
abbrev pub Serves : {A : Type 0} → DeskOf → Call → Prepared A → Type 0
Serves d (Apply command) (prepared.Apply es e) =
    CanTake d es × (after d.desk es ≡ desk_after d.desk command) ×
    (e ≡ carried_out (d.history.accepted + 1) (command ∷ []))
Serves d (Apply command) prepared.Undo = ⊥
Serves d (Apply command) prepared.Redo = ⊥
Serves d (Group commands) (prepared.Apply es e) =
    CanTake d es × (after d.desk es ≡ desk_after_all d.desk commands) ×
    (e ≡ carried_out (d.history.accepted + 1) commands)
Serves d (Group commands) prepared.Undo = ⊥
Serves d (Group commands) prepared.Redo = ⊥
Serves d (Undo last) (prepared.Apply es e) = ⊥
Serves d (Undo last) prepared.Undo = 0 < length d.done
Serves d (Undo last) prepared.Redo = ⊥
Serves d (Redo last) (prepared.Apply es e) = ⊥
Serves d (Redo last) prepared.Undo = ⊥
Serves d (Redo last) prepared.Redo = 0 < length d.undone
Serves d (Revert number) (prepared.Apply es e) =
    CanTake d es × (after d.desk es ≡ desk_without d number) × (e ≡ took_back (d.history.accepted + 1) number)
Serves d (Revert number) prepared.Undo = ⊥
Serves d (Revert number) prepared.Redo = ⊥

-- no reason holds against the call, the log isn't full, and what was prepared serves it
abbrev pub IsReady : {A : Type 0} → DeskOf → Call → Prepared A → Type 0
IsReady d call p = (call_refused d call ≡ None) × (d.version < call_limit) × Serves d call p
