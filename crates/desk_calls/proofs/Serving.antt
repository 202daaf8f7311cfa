-- What was prepared for a call, and what it makes of the desk and its history.
use Rattle.std.specs.Prelude.{◌∷◌, ◌++◌, ◌+◌, ◌<◌}
use Rattle.std.proofs.Common.{◌≡◌, List, [], length, refl, sym, ap, ◌∙◌}
use Rattle.desk_rows.specs.Edit.{EditOf}
use Rattle.desk_edit.specs.Asked.{CallOf as Call}
use Rattle.desk_edit.specs.Asked.CallOf.{Apply, Group, Undo, Redo, Revert}
use Rattle.desk_edit.specs.Groups.{desk_after_all}
use Rattle.desk_edit.specs.InForce.{Entry, desk_in_force}
use Rattle.desk_edit.specs.Calls.{after_call, with_entry, with_undo, with_redo}
use Rattle.desk_edit.proofs.Forcing.{carried_on}
use Rattle.desk_calls.specs.Edits.{after}
use Rattle.desk_calls.specs.Desk.{DeskOf, CanTake, Serves, Does, UndoesEdit, RedoesEdit}
use Rattle.desk_calls.specs.Following.{HasCalled}
use Rattle.desk_calls.specs.declared.prepared.Prepared.TheVariants as prepared

pub can_take : (A : Type 0) (d : DeskOf) (call : Call) (es : List EditOf) (e : Entry)
    → Serves {A = A} d call (prepared.Apply es e) → CanTake d es
can_take A d (Apply command) es e serves = serves.0
can_take A d (Group commands) es e serves = serves.0
can_take A d (Undo last) es e serves = absurd serves
can_take A d (Redo last) es e serves = absurd serves
can_take A d (Revert number) es e serves = serves.0

-- the entry has the next number, and the edits lead to the desk with it
pub stands_for : (A : Type 0) (d : DeskOf) (call : Call) (es : List EditOf) (e : Entry)
    → Serves {A = A} d call (prepared.Apply es e) → HasCalled d d.history →
    (e.number ≡ d.version + 1) × (after d.desk es ≡ desk_in_force d.history.start (d.history.done ++ e ∷ []))
stands_for A d (Apply command) es e serves called = (
  ap (λ (x : Entry). x.number) serves.2 ∙ ap (λ n. n + 1) (sym called.version),
  serves.1
      ∙ ap (λ x. desk_after_all x (command ∷ [])) called.desk
      ∙ sym (carried_on d.history.start d.history.done (d.history.accepted + 1) (command ∷ []))
      ∙ ap (λ x. desk_in_force d.history.start (d.history.done ++ x ∷ [])) (sym serves.2),
)
stands_for A d (Group commands) es e serves called = (
  ap (λ (x : Entry). x.number) serves.2 ∙ ap (λ n. n + 1) (sym called.version),
  serves.1
      ∙ ap (λ x. desk_after_all x commands) called.desk
      ∙ sym (carried_on d.history.start d.history.done (d.history.accepted + 1) commands)
      ∙ ap (λ x. desk_in_force d.history.start (d.history.done ++ x ∷ [])) (sym serves.2),
)
stands_for A d (Revert number) es e serves called = (
  ap (λ (x : Entry). x.number) serves.2 ∙ ap (λ n. n + 1) (sym called.version),
  serves.1 ∙ ap (λ x. desk_in_force d.history.start (d.history.done ++ x ∷ [])) (sym serves.2),
)
stands_for A d (Undo last) es e serves called = absurd serves
stands_for A d (Redo last) es e serves called = absurd serves

pub applied : (A : Type 0) (old new : DeskOf) (call : Call) (es : List EditOf) (e : Entry)
    → Serves {A = A} old call (prepared.Apply es e) → new.desk ≡ after old.desk es
    → new.done ≡ old.done ++ es ∷ [] → new.undone ≡ [] → Does old new call
applied A old new (Apply command) es e serves desk done undone =
    (desk ∙ serves.1, (es, serves.0.0, desk, done, undone))
applied A old new (Group commands) es e serves desk done undone =
    (desk ∙ serves.1, (es, serves.0.0, desk, done, undone))
applied A old new (Revert number) es e serves desk done undone =
    (desk ∙ serves.1, (es, serves.0.0, desk, done, undone))
applied A old new (Undo last) es e serves desk done undone = absurd serves
applied A old new (Redo last) es e serves desk done undone = absurd serves

pub turns : (A : Type 0) (d : DeskOf) (call : Call) (es : List EditOf) (e : Entry)
    → Serves {A = A} d call (prepared.Apply es e) → with_entry d.history e ≡ after_call d.history call
unfolding after_call
turns A d (Apply command) es e serves = ap (with_entry d.history) serves.2
turns A d (Group commands) es e serves = ap (with_entry d.history) serves.2
turns A d (Revert number) es e serves = ap (with_entry d.history) serves.2
turns A d (Undo last) es e serves = absurd serves
turns A d (Redo last) es e serves = absurd serves

-- ---- undos and redos

pub undo_serves : (A : Type 0) (d : DeskOf) (call : Call) → Serves {A = A} d call prepared.Undo → 0 < length d.done
undo_serves A d (Undo last) serves = serves
undo_serves A d (Apply command) serves = absurd serves
undo_serves A d (Group commands) serves = absurd serves
undo_serves A d (Redo last) serves = absurd serves
undo_serves A d (Revert number) serves = absurd serves

pub undone : (A : Type 0) (old new : DeskOf) (call : Call) → Serves {A = A} old call prepared.Undo
    → UndoesEdit old new → Does old new call
undone A old new (Undo last) serves does = does
undone A old new (Apply command) serves does = absurd serves
undone A old new (Group commands) serves does = absurd serves
undone A old new (Redo last) serves does = absurd serves
undone A old new (Revert number) serves does = absurd serves

pub turns_back : (A : Type 0) (d : DeskOf) (call : Call) → Serves {A = A} d call prepared.Undo
    → with_undo d.history ≡ after_call d.history call
unfolding after_call
turns_back A d (Undo last) serves = refl
turns_back A d (Apply command) serves = absurd serves
turns_back A d (Group commands) serves = absurd serves
turns_back A d (Redo last) serves = absurd serves
turns_back A d (Revert number) serves = absurd serves

pub redo_serves : (A : Type 0) (d : DeskOf) (call : Call) → Serves {A = A} d call prepared.Redo → 0 < length d.undone
redo_serves A d (Redo last) serves = serves
redo_serves A d (Apply command) serves = absurd serves
redo_serves A d (Group commands) serves = absurd serves
redo_serves A d (Undo last) serves = absurd serves
redo_serves A d (Revert number) serves = absurd serves

pub redone : (A : Type 0) (old new : DeskOf) (call : Call) → Serves {A = A} old call prepared.Redo
    → RedoesEdit old new → Does old new call
redone A old new (Redo last) serves does = does
redone A old new (Apply command) serves does = absurd serves
redone A old new (Group commands) serves does = absurd serves
redone A old new (Undo last) serves does = absurd serves
redone A old new (Revert number) serves does = absurd serves

pub turns_again : (A : Type 0) (d : DeskOf) (call : Call) → Serves {A = A} d call prepared.Redo
    → with_redo d.history ≡ after_call d.history call
unfolding after_call
turns_again A d (Redo last) serves = refl
turns_again A d (Apply command) serves = absurd serves
turns_again A d (Group commands) serves = absurd serves
turns_again A d (Undo last) serves = absurd serves
turns_again A d (Revert number) serves = absurd serves
