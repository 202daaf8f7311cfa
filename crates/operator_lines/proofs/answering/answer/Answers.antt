use Rattle.std.proofs.Common.{◌≡◌, ◌∙◌, ℕ, List, Result, Ok, IfOk, sym, ap, subst}
use Rattle.std.proofs.lemmas.Result.{IfOk-weaker}
use Rattle.desk_text.specs.declared.fault.Fault.{Fault}
use Rattle.operator_lines.specs.Operators.{AskOf, AppendsAnswer, alone, asks, asked_of}
use Rattle.operator_lines.specs.declared.answering.Next.{Next}
use Rattle.operator_lines.proofs.answering.answer.Goals as goal

pub returns-in-Ok-Verb-clause-answer : goal.returns-in-Ok-Verb-clause-answer
returns-in-Ok-Verb-clause-answer g c =
    let replies = g.D.LineDesk.replies c.args.moment in
    let shows = g.D.LineDesk.shows in
    let line = c.args.line.now in
    let old = c.args.desk.now in
    let new = c.answer_verb.new.desk in
    let before = c.args.out.now.items in
    let after = c.answer_verb.new.out.items in
    let read : Result AskOf (ℕ × Fault) = Ok (alone c.in-Ok-Verb.verb) in
    let same : asked_of line ≡ read =
    c.in-Ok-Verb.ensures.asked
    ∙ ap (λ f. let one : Result AskOf (ℕ × Fault) = Ok (asks f) in one) c.in-Ok-Verb.field-0-is in
    subst
    (λ (asked : Result AskOf (ℕ × Fault)).
    IfOk c.answer_verb.result (λ (next : Next). AppendsAnswer replies shows line old asked new before after next))
    (sym same)
    (IfOk-weaker c.answer_verb.result
    (λ (next : Next). (said : List ℕ) → AppendsAnswer replies shows said old read new before after next)
    (λ (next : Next). AppendsAnswer replies shows line old read new before after next)
    (λ next answers. answers line) c.answer_verb.ensures.answer)
