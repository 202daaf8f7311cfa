use Rattle.std.proofs.Common.{◌≡◌, refl, ap, sym, ◌∙◌, fold}
use Rattle.desk_rows.specs.Desk.{Desk}
use Rattle.desk_calls.specs.Edits.{after}
use Rattle.desk_edit.specs.Calls.{CallHistory, after_call}
use Rattle.desk_edit.specs.Asked.{CallOf, asked_by}
use Rattle.desk_edit.specs.Asked.CallOf.{Apply, Group, Undo, Redo, Revert}
use Rattle.worked_bridge.proofs.taking_back.edits_lead_there_and_back.Goals as goal

-- a call leaves the first desk as it is
start : (h : CallHistory) (call : CallOf) → (after_call h call).start ≡ h.start
unfolding after_call
start h (Apply command) = refl
start h (Group commands) = refl
start h (Undo last) = refl
start h (Redo last) = refl
start h (Revert number) = refl

pub returns-in-Accepted-clause-leads : goal.returns-in-Accepted-clause-leads
returns-in-Accepted-clause-leads c = λ called h from.
    ap (λ (d : Desk). fold after d c.desk.new.self.done) (sym (start h (asked_by c.args.call)))
    ∙ c.edits_lead_back.ensures.leads c.desk.new.self (after_call h (asked_by c.args.call))
    (c.in-Accepted.ensures.history h from).2

pub returns-in-Accepted-clause-back : goal.returns-in-Accepted-clause-back
returns-in-Accepted-clause-back c = λ called h from.
    c.edits_lead_back.ensures.back c.desk.new.self (after_call h (asked_by c.args.call))
    (c.in-Accepted.ensures.history h from).2
    ∙ start h (asked_by c.args.call)
