use Rattle.std.proofs.Common.{◌+◌, ℕ, List, take, sym, subst, ◌∙◌, inl, inr}
use Rattle.operator_lines.specs.Fed.{texts}
use Rattle.operator_connection.specs.Talking.{AnswersLines, AnswersSome}
use Rattle.operator_connection.specs.declared.talking.LinkState.TheVariants.{Open}
use Rattle.operator_connection.proofs.CallerLemmas.{on_err}
use Rattle.operator_connection.proofs.TalkLemmas.{answers_step, open_is}
use Rattle.operator_connection.proofs.talking.Talk.answer_lines.Goals as goal

pub returns-then-not-is_open-clause-first : goal.returns-then-not-is_open-clause-first
returns-then-not-is_open-clause-first g c = (
  c.loop-line.line-index + 1,
  answers_step (g.D.LineDesk.replies c.args.moment) g.D.LineDesk.shows (λ line. line.items) c.args.lines.now
      c.loop-line.line-index _ _
      _ _ _ _ _ _ _ _ c.loop-line-test.true c.line-item.is c.deref.ensures.value c.loop-line.invariant.said
      c.in_ok-answer_line.ensures.answer c.in_ok-answer_line.ensures.standing,
  inr (inl (sym c.is_open.ensures ∙ c.if-not-is_open.true)),
)

pub loop-line-preserved : goal.loop-line-preserved
loop-line-preserved g c =
    let stays = open_is _ (sym c.is_open.ensures ∙ c.if-not-is_open.false) in
    record {
      stands = stays;
      kept = c.answer_line.ensures.lines ∙ c.loop-line.invariant.kept;
      said =
          answers_step (g.D.LineDesk.replies c.args.moment) g.D.LineDesk.shows (λ line. line.items) c.args.lines.now
          c.loop-line.line-index
          _ _ _ _ _ _ _ _ _ _ c.loop-line-test.true c.line-item.is c.deref.ensures.value c.loop-line.invariant.said
          c.in_ok-answer_line.ensures.answer (sym stays ∙ c.in_ok-answer_line.ensures.standing);
    }

pub returns-in_err-answer_line-clause-broke : goal.returns-in_err-answer_line-clause-broke
returns-in_err-answer_line-clause-broke g c =
    let replies = g.D.LineDesk.replies c.args.moment in
    let shows = g.D.LineDesk.shows in
    let some : AnswersSome replies shows (texts c.args.lines.now) c.args.desk.now c.args.self.now.outgoing
    c.answer_line.new.self.outgoing = (
      c.loop-line.line-index,
      c.loop-line.desk,
      Open,
      subst (λ (o : List ℕ).
          AnswersLines replies shows (take c.loop-line.line-index (texts c.args.lines.now)) c.args.desk.now
          c.loop-line.desk
          c.args.self.now.outgoing o Open Open)
          (sym c.in_err-answer_line.ensures.err) c.loop-line.invariant.said,
    ) in
    on_err _ some
