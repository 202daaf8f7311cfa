use Rattle.std.proofs.Common.{◌≡◌, ◌+◌, [], refl, sym, ap, subst, ◌∙◌}
use Rattle.desk_calls.specs.Desk.{DeskOf}
use Rattle.desk_edit.specs.Asked.{asked_by}
use Rattle.desk_calls.specs.declared.reply.Reply.TheVariants.{Accepted, Refused}
use Rattle.bridge_core.specs.Steps.{CoreOf, Step, Takes}
use Rattle.bridge_core.specs.Calls.{Answers}
use Rattle.bridge_core.specs.Following.{HasCalled}
use Rattle.bridge_core.proofs.StepLaws.{published}
use Rattle.bridge_core.proofs.DeskCalls.{core_with, accepted_answer, accepted_history, refused_answer, refused_history}
use Rattle.bridge_core.proofs.bridge.Core.desk.Goals as goal

pub returns-in-Ok-clause-answer : goal.returns-in-Ok-clause-answer
returns-in-Ok-clause-answer g c =
    let was = c.self.inside in
    let call = asked_by c.args.call in
    let new = core_with c.commit.new.self was.lanes.items was.ingress in
    subst (λ (core : CoreOf). Answers core new call (Accepted c.commit.result)) c.self.view_is
    (accepted_answer was.desk c.prepare.new.self c.commit.new.self was.lanes.items was.ingress call c.in-Ok.prepared
    c.commit.result c.prepare.ensures.same c.in-Ok.ensures.ready c.commit.ensures.does c.commit.ensures.version
    c.commit.ensures.turns)

pub returns-in-Ok-clause-takes : goal.returns-in-Ok-clause-takes
returns-in-Ok-clause-takes g c =
    let was = c.self.inside in
    let new = core_with c.commit.new.self was.lanes.items was.ingress in
    let version : c.commit.new.self.version ≡ was.desk.version + 1 =
    c.commit.ensures.version.1
    ∙ c.commit.ensures.version.0
    ∙ ap (λ (d : DeskOf). d.version + 1) {y = record was.desk { spare = c.prepare.new.self.spare }}
    c.prepare.ensures.same in
    subst (λ (core : CoreOf). Takes core new (Step.publish new.desk) []) c.self.view_is
    (published (core_with was.desk was.lanes.items was.ingress) new version refl)

pub returns-in-Ok-clause-history : goal.returns-in-Ok-clause-history
returns-in-Ok-clause-history g c h called =
    let was = c.self.inside in
    let call = asked_by c.args.call in
    accepted_history was.desk c.prepare.new.self c.commit.new.self was.lanes.items was.ingress call c.commit.result
    c.in-Ok.ensures.free c.prepare.ensures.history c.commit.ensures.history c.commit.ensures.version.0 h
    (subst (λ (core : CoreOf). HasCalled core h) (sym c.self.view_is) called)

pub returns-clause-answer : goal.returns-clause-answer
returns-clause-answer g c =
    let was = c.self.inside in
    let call = asked_by c.args.call in
    let new = core_with c.prepare.new.self was.lanes.items was.ingress in
    subst (λ (core : CoreOf). Answers core new call (Refused c.version.result c.in-Err.why)) c.self.view_is
    (refused_answer was.desk c.prepare.new.self was.lanes.items was.ingress call c.version.result c.in-Err.why
    c.prepare.ensures.same c.version.ensures.version c.in-Err.ensures.why)

pub returns-clause-history : goal.returns-clause-history
returns-clause-history g c h called =
    let was = c.self.inside in
    let call = asked_by c.args.call in
    refused_history was.desk c.prepare.new.self was.lanes.items was.ingress call c.version.result c.in-Err.why
    c.in-Err.ensures.told c.prepare.ensures.history c.version.ensures.version h
    (subst (λ (core : CoreOf). HasCalled core h) (sym c.self.view_is) called)
