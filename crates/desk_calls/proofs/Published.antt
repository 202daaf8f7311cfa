-- The edits of an undo and of a redo, as they are published, fit the desk and lead where the call leads.
use Rattle.std.proofs.Common.{◌≡◌, true, List, [], ◌∷◌, ◌++◌, reverse, sym, ap, subst, ◌∙◌}
use Rattle.undo_log.specs.Timeline.{IsTimeline, all_fit, rewound}
use Rattle.undo_log.specs.laws.ListLaws.{all_inverses_fit}
use Rattle.undo_log.proofs.Steps.{last_fits, next_fits}
use Rattle.desk_rows.specs.Desk.{Desk}
use Rattle.desk_rows.specs.Edit.{EditOf, inverse as one_inverse}
use Rattle.desk_rows.specs.Exchange.{fits as one_fits, after as one_after}
use Rattle.desk_rows.specs.laws.Laws.{inverse_fits as one_inverse_fits, undoes as one_undoes}
use Rattle.desk_edit.specs.Asked.{CallOf as Call}
use Rattle.desk_edit.specs.Asked.CallOf.{Apply, Group, Undo, Redo, Revert}
use Rattle.desk_edit.specs.Calls.{final}
use Rattle.desk_calls.proofs.Ends.{final_push}
use Rattle.desk_calls.specs.Edits.{fits, after, inverse}
use Rattle.desk_calls.specs.laws.EditLaws.{undoes}
use Rattle.desk_calls.specs.Desk.{DeskOf, Does, Serves}
use Rattle.desk_calls.specs.declared.prepared.Prepared.TheVariants as prepared

one_same : {X : Type 0} (x y : X) → x ∷ [] ≡ y ∷ [] → x ≡ y
one_same x y same = cc

last_same : {X : Type 0} (xs ys : List X) (x y : X) → xs ++ x ∷ [] ≡ ys ++ y ∷ [] → x ≡ y
last_same xs ys x y same = one_same x y (sym (final_push xs x) ∙ ap final same ∙ final_push ys y)

pub undone_leads : (A : Type 0) (old new : DeskOf) (call : Call) → Serves {A = A} old call prepared.Undo
    → (e : List EditOf) (before : List (List EditOf)) (back : List EditOf) → old.done ≡ before ++ e ∷ []
    → back ≡ inverse e → Does old new call
    → after old.desk back ≡ new.desk
undone_leads A old new (Undo last) serves e before back is turned does =
    ap (after old.desk) (turned ∙ ap inverse (last_same before new.done e does.0 (sym is ∙ does.1))) ∙ sym does.4
undone_leads A old new (Apply command) serves e before back is turned does = absurd serves
undone_leads A old new (Group commands) serves e before back is turned does = absurd serves
undone_leads A old new (Redo last) serves e before back is turned does = absurd serves
undone_leads A old new (Revert number) serves e before back is turned does = absurd serves

pub redone_leads : (A : Type 0) (old new : DeskOf) (call : Call) → Serves {A = A} old call prepared.Redo
    → (before : List (List EditOf)) (again : List EditOf) → old.undone ≡ before ++ again ∷ [] → Does old new call
    → after old.desk again ≡ new.desk
redone_leads A old new (Redo last) serves before again is does =
    ap (after old.desk) (last_same before new.undone again does.0 (sym is ∙ does.1)) ∙ sym does.3
redone_leads A old new (Apply command) serves before again is does = absurd serves
redone_leads A old new (Group commands) serves before again is does = absurd serves
redone_leads A old new (Undo last) serves before again is does = absurd serves
redone_leads A old new (Revert number) serves before again is does = absurd serves

pub inverses_fit : (d : Desk) (es : List EditOf) → fits d es ≡ true → fits (after d es) (inverse es) ≡ true
inverses_fit d es fit = all_inverses_fit one_fits one_after one_inverse one_inverse_fits one_undoes d es fit

-- the last edit that is done, taken back, fits the desk
pub undone_fits : (start d : Desk) (done undone before : List (List EditOf)) (e : List EditOf)
    → IsTimeline fits after start d done undone → rewound after inverse d (reverse done) ≡ start
    → done ≡ before ++ e ∷ [] → fits d (inverse e) ≡ true
undone_fits start d done undone before e is begins last =
    let P : List (List EditOf) → Type 0 = λ es.
    IsTimeline fits after (rewound after inverse d (reverse es)) d es undone in
    last_fits fits after inverse inverses_fit undoes d before undone e
    (subst P last (subst (λ s. IsTimeline fits after s d done undone) (sym begins) is))

-- the edit that was undone last fits the desk
pub redone_fits : (start d : Desk) (done undone before : List (List EditOf)) (e : List EditOf)
    → IsTimeline fits after start d done undone → undone ≡ before ++ e ∷ [] → fits d e ≡ true
redone_fits start d done undone before e is last =
    (next_fits fits after inverse inverses_fit undoes d before e
    (subst (λ es. all_fit fits after d (reverse es) ≡ true) last is.undone_fit)).0
