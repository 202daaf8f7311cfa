use Rattle.std.proofs.Common.{Option, Some, Bool, ◌≡◌, sym, ap, subst, ◌∙◌}
use Rattle.std.specs.Bool.{MatchBool}
use Rattle.operator_connection.specs.Connection.{CallerOf, connection, heeded_in, heeded_of}
use Rattle.operator_connection.specs.Deeds.{AnswersHeeded, HasAnswered}
use Rattle.operator_lines.specs.declared.feeding.Fed.{Fed}
use Rattle.std.specs.declared.alloc.Global.{Global}
use Rattle.operator_connection.proofs.caller.Caller.answer_at.Goals as goal

pub returns-then-is_open : goal.returns-then-is_open
returns-then-is_open g c =
    let replies = g.D.LineDesk.replies c.args.now in
    let shows = g.D.LineDesk.shows in
    let was = c.self.inside in
    let acts = g.L.CallerLine.acts was.line in
    let new = c.answer_taken.new.self.connection in
    let desk = c.args.desk.now in
    let desk' = c.answer_taken.new.desk in
    let said = c.answer_taken.ensures in
    subst (λ (v : CallerOf). HasAnswered replies shows c.args.now v.connection.heeded desk desk' v.connection new)
    c.self.view_is
    (subst
    (λ (h : Option (Fed Global)).
    HasAnswered replies shows c.args.now (heeded_of h) desk desk' (connection acts was.talk was.ready h) new)
    (sym (sym c.take.ensures.value ∙ c.in-Some.is))
    (record {
      said =
          subst
          (λ (b : Bool).
          MatchBool b
          (AnswersHeeded replies shows (heeded_in c.in-Some.heard) desk desk'
          (connection acts was.talk was.ready (Some c.in-Some.heard)) new
          × (new.since ≡ c.args.now))
          ((desk' ≡ desk) × (new.waiting ≡ was.talk.outgoing) × (new.standing ≡ was.talk.standing)
          × (new.since ≡ was.talk.since)))
          (sym (sym c.is_open.ensures ∙ c.if-is_open.true)) (said.said, said.since);
      acts = said.acts;
      ready = said.ready;
      kept = said.kept;
      none = said.heeded ∙ ap heeded_of c.take.ensures.after;
    }))
