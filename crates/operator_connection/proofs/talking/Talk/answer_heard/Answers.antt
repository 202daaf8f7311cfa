use Rattle.std.proofs.Common.{ℕ, List, OnErr, sym, subst}
use Rattle.operator_lines.specs.Fed.{texts}
use Rattle.operator_connection.specs.Talking.{AnswersSome}
use Rattle.operator_connection.proofs.talking.Talk.answer_heard.Goals as goal

pub returns-clause-broke : goal.returns-clause-broke
returns-clause-broke g c =
    let replies = g.D.LineDesk.replies c.args.moment in
    let shows = g.D.LineDesk.shows in
    let desk = c.args.desk.now in
    let before = c.args.self.now.outgoing in
    let lines = c.args.heard.now.lines.items in
    subst (λ r. OnErr r (AnswersSome replies shows (texts lines) desk before c.or_lost.new.self.outgoing))
    (sym c.or_lost.ensures.same)
    (subst
    (λ (o : List ℕ). OnErr c.answer_all-said.result (AnswersSome replies shows (texts lines) desk before o))
    (sym c.or_lost.ensures.outgoing) c.answer_all-said.ensures.broke)
