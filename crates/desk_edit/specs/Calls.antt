-- The history of calls: which entries are done, which are undone, and how each call is answered.
use Rattle.std.specs.Prelude.{ℕ, ◌+◌, not, nat_eq, List, [], ◌∷◌, ◌++◌, length, take, Option, Some, None}
use Rattle.std.specs.Prelude.{option_map, if◌then◌else◌}
use Rattle.desk_rows.specs.Desk.{Desk}
use Rattle.desk_edit.specs.Asked.{CallOf}
use Rattle.desk_edit.specs.Asked.CallOf.{Apply, Group, Undo, Redo, Revert}
use Rattle.desk_edit.specs.declared.refusal.Refusal.{Refusal}
use Rattle.desk_edit.specs.declared.refusal.Refusal.TheVariants.{NewerCommand, NothingToUndo, NothingToRedo, LogFull}
use Rattle.std.specs.Option.{option_or}
use Rattle.desk_edit.specs.Groups.{size_refused, part_refused}
use Rattle.desk_edit.specs.InForce.{Entry, desk_in_force, carried_out, took_back}
use Rattle.desk_edit.specs.Reverts.{early_revert_refused, late_revert_refused}
use Rattle.desk_edit.specs.Reasons.{refusal_of_group}
use Rattle.desk_edit.specs.Refusals.{refused}

-- what the accepted calls have led to: the desk of the start, the entries that are done and those that are undone, and
-- how many calls were accepted
pub record CallHistory : Type 0 where
  pub start : Desk
  pub done : List Entry
  -- the last one was undone last
  pub undone : List Entry
  pub accepted : ℕ

-- before any call
abbrev pub no_calls : Desk → CallHistory
no_calls start = record { start = start; done = []; undone = []; accepted = 0 }

-- the desk now: the entries in force, one after another
abbrev pub desk_now : CallHistory → Desk
desk_now h = desk_in_force h.start h.done

-- the most calls that can be accepted: 2 ^ 20 (own)
abbrev pub call_limit : ℕ
call_limit = 1048576

-- the first reason against a command, or else that the log is full
abbrev pub or_log_full : Option Refusal → ℕ → Option Refusal
or_log_full (Some why) version = Some why
or_log_full None version = if nat_eq version call_limit then Some LogFull else None

-- the first reason against a call, out of memory apart, by the history, its desk, and how many entries are done and
-- undone. A command: its own reason, then a full log. A group: too few or too many commands, a full log, then the
-- reason against its first refused command. An undo or a redo: another call than the last accepted one, nothing to undo
-- or redo, a full log. A revert: a call that isn't done, or lies too far back, a full log, then what stands in its way
abbrev pub refusal_at : CallHistory → Desk → ℕ → ℕ → CallOf → Option Refusal
refusal_at h d done undone (Apply command) = or_log_full (refused d command) h.accepted
refusal_at h d done undone (Group commands) =
    option_or (option_map refusal_of_group (size_refused (length commands)))
    (if nat_eq h.accepted call_limit then Some LogFull else option_map refusal_of_group (part_refused 0 d commands))
refusal_at h d done undone (Undo last) =
    if not (nat_eq last h.accepted) then Some (NewerCommand h.accepted)
    else (if nat_eq done 0 then Some NothingToUndo
    else (if nat_eq h.accepted call_limit then Some LogFull else None))
refusal_at h d done undone (Redo last) =
    if not (nat_eq last h.accepted) then Some (NewerCommand h.accepted)
    else (if nat_eq undone 0 then Some NothingToRedo
    else (if nat_eq h.accepted call_limit then Some LogFull else None))
refusal_at h d done undone (Revert number) =
    option_or (early_revert_refused h.done number)
    (if nat_eq h.accepted call_limit then Some LogFull else late_revert_refused h.start d h.done number)

-- the first reason against a call after these
abbrev pub refusal_of : CallHistory → CallOf → Option Refusal
refusal_of h call = refusal_at h (desk_now h) (length h.done) (length h.undone) call

-- the first reason against a call as far as it is judged before it takes memory: a group by its size, the log and its
-- first command, a revert by its call's place and the log, any other call as a whole
abbrev pub early_refusal_at : CallHistory → Desk → ℕ → ℕ → CallOf → Option Refusal
early_refusal_at h d done undone (Group commands) =
    option_or (option_map refusal_of_group (size_refused (length commands)))
    (if nat_eq h.accepted call_limit
    then Some LogFull
    else option_map refusal_of_group (part_refused 0 d (take 1 commands)))
early_refusal_at h d done undone (Revert number) =
    option_or (early_revert_refused h.done number) (if nat_eq h.accepted call_limit then Some LogFull else None)
early_refusal_at h d done undone call = refusal_at h d done undone call

abbrev pub early_refusal_of : CallHistory → CallOf → Option Refusal
early_refusal_of h call = early_refusal_at h (desk_now h) (length h.done) (length h.undone) call

-- a list without its last element
abbrev pub front : {X : Type 0} → List X → List X
front [] = []
front (x ∷ []) = []
front (x ∷ y ∷ ys) = x ∷ front (y ∷ ys)

-- the last element as a list, empty for an empty list
abbrev pub final : {X : Type 0} → List X → List X
final [] = []
final (x ∷ []) = x ∷ []
final (x ∷ y ∷ ys) = final (y ∷ ys)

-- one more entry is done, and what was undone is forgotten
abbrev pub with_entry : CallHistory → Entry → CallHistory
with_entry h e = record h { done = h.done ++ e ∷ []; undone = []; accepted = h.accepted + 1 }

-- the last entry is undone
abbrev pub with_undo : CallHistory → CallHistory
with_undo h = record h { done = front h.done; undone = h.undone ++ final h.done; accepted = h.accepted + 1 }

-- the entry that was undone last is done again
abbrev pub with_redo : CallHistory → CallHistory
with_redo h = record h { done = h.done ++ final h.undone; undone = front h.undone; accepted = h.accepted + 1 }

-- after a call that is accepted: its entry is done and what was undone is forgotten; an undo moves the last entry from
-- one list to the other, and a redo moves it back
unfoldable pub after_call : CallHistory → CallOf → CallHistory
after_call h (Apply command) = with_entry h (carried_out (h.accepted + 1) (command ∷ []))
after_call h (Group commands) = with_entry h (carried_out (h.accepted + 1) commands)
after_call h (Undo last) = with_undo h
after_call h (Redo last) = with_redo h
after_call h (Revert number) = with_entry h (took_back (h.accepted + 1) number)
