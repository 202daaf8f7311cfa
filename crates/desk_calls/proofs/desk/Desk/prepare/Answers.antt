use Rattle.std.proofs.Common.{◌≡◌, None, sym, ap, ◌∙◌}
use Rattle.std.proofs.lemmas.Result.{IfErr-weaker}
use Rattle.desk_edit.specs.Asked.{asked_by}
use Rattle.desk_edit.specs.Calls.{CallHistory, refusal_of}
use Rattle.desk_calls.specs.Desk.{DeskOf, call_refused, IsReady, IsReason}
use Rattle.desk_calls.specs.Following.{HasCalled, IsTold}
use Rattle.desk_calls.proofs.FollowLaws.{told_by, same_called, same_reason}
use Rattle.desk_calls.proofs.Planned.{free_of}
use Rattle.desk_calls.proofs.desk.Desk.prepare.Goals as goal

pub returns-clause-history : goal.returns-clause-history
returns-clause-history g c h called = same_called c.args.self.now c.judge.new.self h c.judge.ensures.same called

pub returns-clause-free : goal.returns-clause-free
returns-clause-free g c =
    let old = c.args.self.now in
    let new = c.judge.new.self in
    let call = asked_by c.args.call.now in
    free_of c.judge.result (λ prepared. IsReady new call prepared)
    ((h : CallHistory) → HasCalled old h → refusal_of h call ≡ None)
    (λ prepared ready h called.
    sym (same_reason old h call called)
    ∙ ap (λ (d : DeskOf). call_refused d call) (sym c.judge.ensures.same)
    ∙ ready.0)
    c.judge.ensures.ready

pub returns-clause-told : goal.returns-clause-told
returns-clause-told g c =
    let old = c.args.self.now in
    let call = asked_by c.args.call.now in
    IfErr-weaker c.judge.result (λ why. IsReason old call why)
    (λ why. (h : CallHistory) → HasCalled old h → IsTold h call why)
    (λ why reason h called. told_by old h call why called reason) c.judge.ensures.why
