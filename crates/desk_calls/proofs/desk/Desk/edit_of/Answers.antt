use Rattle.std.proofs.Common.{◌≡◌, true, [], ◌∷◌, ◌++◌, sym, ap, subst, ◌∙◌}
use Rattle.desk_edit.specs.Asked.{asked_by}
use Rattle.desk_calls.specs.Edits.{fits, inverse}
use Rattle.desk_calls.specs.Desk.{DeskOf, IsReady}
use Rattle.desk_calls.proofs.Published.{undone_leads, redone_leads, undone_fits, redone_fits}
use Rattle.desk_calls.proofs.desk.Desk.edit_of.Goals as goal

pub returns-in-Ok : goal.returns-in-Ok
returns-in-Ok g c = record {
  leads = λ new does.
      let ready = subst (λ p. IsReady c.args.self.now (asked_by c.args.call.now) p) c.in-Undo.is c.requires in
      let back = c.in-Ok.ensures.ok in
      undone_leads _ c.args.self.now new (asked_by c.args.call.now) ready.2 back.0 back.1 c.in-Ok.edits
      (subst (λ (d : DeskOf). d.done ≡ back.1 ++ back.0 ∷ []) c.self.view_is back.2) back.3 does;
  fit =
      let history = c.self.inside.history in
      let back = c.in-Ok.ensures.ok in
      let fit =
      undone_fits history.start history.state history.done history.undone back.1 back.0 c.known.ensures.leads
      c.known.ensures.undoing_all back.2 in
      ap (fits c.args.self.now.desk) back.3
      ∙ subst (λ (d : DeskOf). fits d.desk (inverse back.0) ≡ true) c.self.view_is fit;
}

pub returns-in-Ok-redo_edit : goal.returns-in-Ok-redo_edit
returns-in-Ok-redo_edit g c = record {
  leads = λ new does.
      let ready = subst (λ p. IsReady c.args.self.now (asked_by c.args.call.now) p) c.in-Redo.is c.requires in
      let again = c.in-Ok-redo_edit.ensures.ok in
      redone_leads _ c.args.self.now new (asked_by c.args.call.now) ready.2 again.0 c.in-Ok-redo_edit.edits
      (subst (λ (d : DeskOf). d.undone ≡ again.0 ++ c.in-Ok-redo_edit.edits ∷ []) c.self.view_is again.1) does;
  fit =
      let history = c.self.inside.history in
      let again = c.in-Ok-redo_edit.ensures.ok in
      let fit =
      redone_fits history.start history.state history.done history.undone again.0 c.in-Ok-redo_edit.edits
      c.known.ensures.leads again.1 in
      subst (λ (d : DeskOf). fits d.desk c.in-Ok-redo_edit.edits ≡ true) c.self.view_is fit;
}
