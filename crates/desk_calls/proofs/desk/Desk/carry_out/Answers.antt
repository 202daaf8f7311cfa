use Rattle.std.proofs.Common.{subst, ◌∙◌}
use Rattle.desk_edit.specs.Asked.{asked_by}
use Rattle.desk_calls.specs.Desk.{DeskOf, IsReady}
use Rattle.desk_calls.specs.Following.{HasCalled}
use Rattle.desk_calls.proofs.Serving.{can_take, stands_for, applied, turns, undo_serves, undone, turns_back}
use Rattle.desk_calls.proofs.Serving.{redo_serves, redone, turns_again}
use Rattle.desk_calls.proofs.desk.Desk.carry_out.Goals as goal

pub apply-requires-clause-fits : goal.apply-requires-clause-fits
apply-requires-clause-fits g c =
    let d = c.args.self.now in
    let call = asked_by c.args.call.now in
    let ready = subst (λ p. IsReady d call p) c.in-Apply.is c.requires in
    (can_take _ d call c.in-Apply.edits c.in-Apply.entry ready.2).0

pub apply-requires-clause-capacity : goal.apply-requires-clause-capacity
apply-requires-clause-capacity g c =
    let d = c.args.self.now in
    let call = asked_by c.args.call.now in
    let ready = subst (λ p. IsReady d call p) c.in-Apply.is c.requires in
    ((can_take _ d call c.in-Apply.edits c.in-Apply.entry ready.2).1, ready.1)

pub apply-requires-clause-number : goal.apply-requires-clause-number
apply-requires-clause-number g c =
    let d = c.args.self.now in
    let call = asked_by c.args.call.now in
    let ready = subst (λ p. IsReady d call p) c.in-Apply.is c.requires in
    let called = subst (λ (x : DeskOf). HasCalled x x.history) c.self.view_is c.self.invariant.called in
    (stands_for _ d call c.in-Apply.edits c.in-Apply.entry ready.2 called).0

pub apply-requires-clause-leads : goal.apply-requires-clause-leads
apply-requires-clause-leads g c =
    let d = c.args.self.now in
    let call = asked_by c.args.call.now in
    let ready = subst (λ p. IsReady d call p) c.in-Apply.is c.requires in
    let called = subst (λ (x : DeskOf). HasCalled x x.history) c.self.view_is c.self.invariant.called in
    (stands_for _ d call c.in-Apply.edits c.in-Apply.entry ready.2 called).1

pub returns-in-Apply-clause-does : goal.returns-in-Apply-clause-does
returns-in-Apply-clause-does g c =
    let d = c.args.self.now in
    let call = asked_by c.args.call.now in
    let ready = subst (λ p. IsReady d call p) c.in-Apply.is c.requires in
    let does = c.apply.ensures.does in
    applied _ d c.apply.new.self call c.in-Apply.edits c.in-Apply.entry ready.2 does.0 does.1 does.2

pub returns-in-Apply-clause-turns : goal.returns-in-Apply-clause-turns
returns-in-Apply-clause-turns g c =
    let d = c.args.self.now in
    let call = asked_by c.args.call.now in
    let ready = subst (λ p. IsReady d call p) c.in-Apply.is c.requires in
    c.apply.ensures.turns ∙ turns _ d call c.in-Apply.edits c.in-Apply.entry ready.2

pub undo-requires : goal.undo-requires
undo-requires g c =
    let d = c.args.self.now in
    let call = asked_by c.args.call.now in
    let ready = subst (λ p. IsReady d call p) c.in-Undo.is c.requires in
    record { some = (undo_serves _ d call ready.2, ready.1) }

pub returns-in-Undo-clause-does : goal.returns-in-Undo-clause-does
returns-in-Undo-clause-does g c =
    let d = c.args.self.now in
    let call = asked_by c.args.call.now in
    let ready = subst (λ p. IsReady d call p) c.in-Undo.is c.requires in
    undone _ d c.undo.new.self call ready.2 c.undo.ensures.does

pub returns-in-Undo-clause-turns : goal.returns-in-Undo-clause-turns
returns-in-Undo-clause-turns g c =
    let d = c.args.self.now in
    let call = asked_by c.args.call.now in
    let ready = subst (λ p. IsReady d call p) c.in-Undo.is c.requires in
    c.undo.ensures.turns ∙ turns_back _ d call ready.2

pub redo-requires : goal.redo-requires
redo-requires g c =
    let d = c.args.self.now in
    let call = asked_by c.args.call.now in
    let ready = subst (λ p. IsReady d call p) c.in-Redo.is c.requires in
    record { some = (redo_serves _ d call ready.2, ready.1) }

pub returns-in-Redo-clause-does : goal.returns-in-Redo-clause-does
returns-in-Redo-clause-does g c =
    let d = c.args.self.now in
    let call = asked_by c.args.call.now in
    let ready = subst (λ p. IsReady d call p) c.in-Redo.is c.requires in
    redone _ d c.redo.new.self call ready.2 c.redo.ensures.does

pub returns-in-Redo-clause-turns : goal.returns-in-Redo-clause-turns
returns-in-Redo-clause-turns g c =
    let d = c.args.self.now in
    let call = asked_by c.args.call.now in
    let ready = subst (λ p. IsReady d call p) c.in-Redo.is c.requires in
    c.redo.ensures.turns ∙ turns_again _ d call ready.2
