use Rattle.std.proofs.Common.{ℕ, List, take, sym, ap, subst}
use Rattle.operator_lines.specs.Fed.{texts}
use Rattle.operator_connection.specs.Talking.{AnswersLines, AnswersSome}
use Rattle.operator_connection.specs.declared.talking.LinkState.TheVariants.{Open}
use Rattle.operator_connection.specs.declared.talking.Talk.{Talk}
use Rattle.operator_connection.proofs.CallerLemmas.{on_err}
use Rattle.operator_connection.proofs.talking.Talk.answer_all.Goals as goal

pub returns-in_err-refuse_too_long-clause-broke : goal.returns-in_err-refuse_too_long-clause-broke
returns-in_err-refuse_too_long-clause-broke g c =
    let first = c.in_ok-stops.ensures.first in
    let said = c.answer_lines.new.self in
    let replies = g.D.LineDesk.replies c.args.moment in
    let shows = g.D.LineDesk.shows in
    let lines = c.deref.result.now in
    let some : AnswersSome replies shows (texts lines) c.args.desk.now c.args.self.now.outgoing
    c.refuse_too_long.new.self.outgoing = (
      first.0,
      c.answer_lines.new.desk,
      said.standing,
      subst (λ (o : List ℕ).
          AnswersLines replies shows (take first.0 (texts lines)) c.args.desk.now c.answer_lines.new.desk
          c.args.self.now.outgoing o Open said.standing)
          (sym (ap (λ (t : Talk). t.outgoing) c.in_err-refuse_too_long.ensures.err)) first.1,
    ) in
    on_err _
    (subst
    (λ ls.
    AnswersSome replies shows (texts ls) c.args.desk.now c.args.self.now.outgoing c.refuse_too_long.new.self.outgoing)
    c.deref.ensures.value some)
