use Rattle.std.proofs.Common.{ℕ, Bool, true, false, List, inl, inr, refl, sym, ap, subst}
use Rattle.operator_lines.specs.Fed.{texts}
use Rattle.operator_connection.specs.Connection.{CallerOf, Connection, connection, heeded_in}
use Rattle.operator_connection.specs.Deeds.{AnswersHeeded}
use Rattle.operator_connection.specs.Talking.{AnswersAll}
use Rattle.operator_connection.proofs.caller.Caller.answer_taken.Goals as goal

pub returns-in-Ok-true-clause-said : goal.returns-in-Ok-true-clause-said
returns-in-Ok-true-clause-said g c =
    let replies = g.D.LineDesk.replies c.args.now in
    let shows = g.D.LineDesk.shows in
    let heard = c.args.heard in
    let desk = c.args.desk.now in
    let desk' = c.answer_heard-said.new.desk in
    let was = c.self.inside in
    let said = c.answer_heard-said.new.self in
    let new = connection (g.L.CallerLine.acts was.line) c.note_stop.new.self was.ready was.heard in
    subst (λ (s : Connection). AnswersHeeded replies shows (heeded_in heard) desk desk' s new)
    (ap (λ (v : CallerOf). v.connection) c.self.view_is)
    (inl (
      true,
      said.standing,
      subst
          (λ (o : List ℕ).
          AnswersAll replies shows (texts heard.lines.items) heard.too_long desk desk'
          was.talk.outgoing o said.standing true)
          (sym c.note_stop.ensures.outgoing)
          (subst
          (λ (b : Bool).
          AnswersAll replies shows (texts heard.lines.items) heard.too_long desk desk'
          was.talk.outgoing said.outgoing said.standing b)
          c.in-Ok-true.field-0-test c.in-Ok-true.ensures.all),
      c.note_stop.ensures.standing,
    ))

pub returns-in-Ok-false-clause-said : goal.returns-in-Ok-false-clause-said
returns-in-Ok-false-clause-said g c =
    let replies = g.D.LineDesk.replies c.args.now in
    let shows = g.D.LineDesk.shows in
    let heard = c.args.heard in
    let desk = c.args.desk.now in
    let desk' = c.answer_heard-said.new.desk in
    let was = c.self.inside in
    let said = c.answer_heard-said.new.self in
    let new = connection (g.L.CallerLine.acts was.line) (record said { since = c.args.now }) was.ready was.heard in
    subst (λ (s : Connection). AnswersHeeded replies shows (heeded_in heard) desk desk' s new)
    (ap (λ (v : CallerOf). v.connection) c.self.view_is)
    (inl (
      false,
      said.standing,
      subst
          (λ (b : Bool).
          AnswersAll replies shows (texts heard.lines.items) heard.too_long desk desk'
          was.talk.outgoing said.outgoing said.standing b)
          c.in-Ok-false.field-0-test c.in-Ok-false.ensures.all,
      refl,
    ))

pub returns-clause-said : goal.returns-clause-said
returns-clause-said g c =
    let heard = c.args.heard in
    let was = c.self.inside in
    let said = c.answer_heard-said.new.self in
    let new = connection (g.L.CallerLine.acts was.line) (record said { since = c.args.now }) was.ready was.heard in
    subst
    (λ (s : Connection).
    AnswersHeeded (g.D.LineDesk.replies c.args.now) g.D.LineDesk.shows (heeded_in heard) c.args.desk.now
    c.answer_heard-said.new.desk s new)
    (ap (λ (v : CallerOf). v.connection) c.self.view_is)
    (inr (c.in-Err.ensures.broke, c.in-Err.ensures.lost))
