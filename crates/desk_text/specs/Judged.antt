-- The order in which the reasons against a call are checked, out of memory apart (own).
use Rattle.std.specs.Prelude.{ℕ, ◌+◌, ◌≤◌, ◌==◌, Bool, not, nat_eq, nat_lt, List, [], ◌∷◌, ◌++◌, length, map}
use Rattle.std.specs.Prelude.{reverse, Option, None, Some, if◌then◌else◌, position, unwrap_or}
use Rattle.desk_rows.specs.declared.key.Key.{Key}
use Rattle.desk_rows.specs.Desk.{Desk}
use Rattle.desk_edit.specs.declared.command.Command.{Command}
use Rattle.desk_edit.specs.Asked.{CallOf}
use Rattle.desk_edit.specs.Asked.CallOf.{Apply, Group, Undo, Redo, Revert}
use Rattle.desk_edit.specs.declared.refusal.Reason.{Reason}
use Rattle.desk_edit.specs.declared.refusal.Refusal.{Refusal}
use Rattle.desk_edit.specs.declared.refusal.Refusal.TheVariants.{NewerCommand, NothingToUndo, NothingToRedo, LogFull}
use Rattle.desk_edit.specs.declared.refusal.Refusal.TheVariants.{EmptyGroup, GroupTooLong, PartRefused, NotInForce}
use Rattle.desk_edit.specs.declared.refusal.Refusal.TheVariants.{TooFar, Conflict}
use Rattle.desk_edit.specs.Calls.{CallHistory, call_limit}
use Rattle.desk_edit.specs.AsIf.{is_idle, moved_keys}
use Rattle.desk_edit.specs.InForce.{Entry, commands_of, desk_with, desk_in_force, in_force, kept, again}
use Rattle.desk_edit.specs.Reverts.{revert_limit, is_made, is_far, is_touched, told_elsewhere, as_if}
use Rattle.desk_edit.specs.Commands.{desk_after}
use Rattle.desk_edit.specs.Forms.{form_of}
use Rattle.desk_edit.specs.Reasons.{group_limit, refusal_for}
use Rattle.desk_edit.specs.Refusals.{cases_of}
use Rattle.desk_edit.specs.Told.{told_of}

-- as many calls were accepted as the log holds
abbrev pub log_case : ℕ → Bool × Refusal
log_case version = (nat_eq version call_limit, LogFull)

-- the reasons against a command, each as a refusal
abbrev pub told_as : (Reason → Refusal) → List (Bool × Reason) → List (Bool × Refusal)
told_as refusal cases = map (λ c. (c.0, refusal c.1)) cases

-- a group has no command, or too many
abbrev pub size_cases : ℕ → List (Bool × Refusal)
size_cases count = (nat_eq count 0, EmptyGroup) ∷ (nat_lt group_limit count, GroupTooLong group_limit) ∷ []

-- the reasons against commands, the first of which has this number in its group: all against one, and then those
-- against the next on the desk that it leaves
abbrev pub part_cases : ℕ → Desk → List Command → List (Bool × Refusal)
part_cases part d [] = []
part_cases part d (command ∷ commands) =
    told_as (PartRefused part) (cases_of d (form_of command)) ++ part_cases (part + 1) (desk_after d command) commands

-- the reasons against carrying a call's commands out again, the first of which has this number in it: all against one
-- that isn't idle, and then those against the next on the desk that it leaves
abbrev pub again_cases : ℕ → ℕ → Desk → List Command → List (Bool × Refusal)
again_cases call part d [] = []
again_cases call part d (command ∷ commands) =
    (if is_idle d command then [] else told_as (Conflict call part) (cases_of d (form_of command)))
    ++ again_cases call (part + 1) (desk_after d command) commands

-- those against carrying out again what the entries did, one after another
abbrev pub conflict_cases : Desk → List Entry → List (Bool × Refusal)
conflict_cases d [] = []
conflict_cases d (e ∷ es) = again_cases e.number 0 d (commands_of e.deed) ++ conflict_cases (desk_with d e) es

-- a reason, if there is one, that holds in this case
abbrev pub told_case : Bool → Option Refusal → List (Bool × Refusal)
told_case holds None = []
told_case holds (Some why) = (holds, why) ∷ []

-- the rows of these keys would come or go, though no call that isn't carried out again brought or took them
abbrev pub elsewhere_cases : Desk → ℕ → List Entry → List Key → List (Bool × Refusal)
elsewhere_cases start number done [] = []
elsewhere_cases start number done (key ∷ ks) =
    told_case (not (is_touched start (number ∷ []) number key (reverse done))) (told_elsewhere key)
    ++ elsewhere_cases start number done ks

-- the reasons against a call, by the history, its desk, and how many entries are done and undone: a full log comes
-- last, but before the commands of a group, and before all that a revert needs memory for
abbrev pub call_cases : CallHistory → Desk → ℕ → ℕ → CallOf → List (Bool × Refusal)
call_cases h d done undone (Apply command) =
    told_as refusal_for (cases_of d (form_of command)) ++ log_case h.accepted ∷ []
call_cases h d done undone (Group commands) =
    size_cases (length commands) ++ log_case h.accepted ∷ part_cases 0 d commands
call_cases h d done undone (Undo last) =
    (not (nat_eq last h.accepted), NewerCommand h.accepted) ∷ (nat_eq done 0, NothingToUndo)
    ∷ log_case h.accepted ∷ []
call_cases h d done undone (Redo last) =
    (not (nat_eq last h.accepted), NewerCommand h.accepted) ∷ (nat_eq undone 0, NothingToRedo)
    ∷ log_case h.accepted ∷ []
call_cases h d done undone (Revert number) =
    (not (is_made number h.done), NotInForce) ∷ (is_far number h.done, TooFar revert_limit) ∷ log_case h.accepted
    ∷ (not (is_made number (in_force h.done)), NotInForce)
    ∷ (conflict_cases (desk_in_force h.start (kept number h.done)) (again number h.done)
    ++ elsewhere_cases h.start number h.done (moved_keys d (as_if h.start h.done number)))

-- a call that is no group and no revert
abbrev pub IsSingle : CallOf → Type 0
IsSingle (Apply command) = Unit {0}
IsSingle (Group commands) = ⊥
IsSingle (Undo last) = Unit {0}
IsSingle (Redo last) = Unit {0}
IsSingle (Revert number) = ⊥

-- the numbers of the refusals of a single call, as they are checked: RateMismatch (21) behind Full (12)
abbrev pub asking_order : List ℕ
asking_order = 1 ∷ 2 ∷ 3 ∷ 4 ∷ 5 ∷ 6 ∷ 7 ∷ 8 ∷ 9 ∷ 10 ∷ 11 ∷ 12 ∷ 21 ∷ 14 ∷ 15 ∷ 16 ∷ 17 ∷ []

-- the place of a number among them, or behind all
abbrev pub turn_of : ℕ → ℕ
turn_of number = unwrap_or (position (λ n. n == number) asking_order) (length asking_order)

-- the numbers of refusals
abbrev pub case_numbers : List (Bool × Refusal) → List ℕ
case_numbers cases = map (λ c. (told_of c.1).number) cases

-- none is less than the one before it
abbrev pub Rises : List ℕ → Type 0
Rises [] = Unit {0}
Rises (n ∷ []) = Unit {0}
Rises (n ∷ m ∷ ns) = (n ≤ m) × Rises (m ∷ ns)
