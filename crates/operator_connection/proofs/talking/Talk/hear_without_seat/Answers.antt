use Rattle.std.proofs.Common.{List, ℕ, IfOk, sym, ap, subst, ◌∙◌}
use Rattle.operator_lines.specs.Fed.{texts}
use Rattle.operator_connection.specs.Greeting.{GreetsAll}
use Rattle.operator_connection.specs.declared.greeting.Greeted.{Greeted}
use Rattle.operator_connection.specs.declared.talking.LinkState.{LinkState}
use Rattle.operator_connection.proofs.talking.Talk.hear_without_seat.Goals as goal

pub returns-in-Ok-or_lost-clause-heard : goal.returns-in-Ok-or_lost-clause-heard
returns-in-Ok-or_lost-clause-heard c =
    let before = c.args.self.now.outgoing in
    let from = c.args.self.now.standing in
    let said = c.greet_all-said.new.self in
    let is_too_long = c.in-Ok.fed.too_long in
    let greeted = c.in-Ok-or_lost.greeted in
    let same = c.in-Ok-or_lost.ensures.ok in
    let all : GreetsAll (texts c.deref.result.now) is_too_long greeted before said.outgoing from said.standing =
    subst (λ r.
    IfOk r (λ (g : Greeted).
    GreetsAll (texts c.deref.result.now) is_too_long g before said.outgoing from said.standing))
    (sym c.or_lost.ensures.same ∙ c.in-Ok-or_lost.is) c.greet_all-said.ensures.all in
    subst
    (λ (st : LinkState).
    GreetsAll (texts c.in-Ok.fed.lines.items) is_too_long greeted before c.or_lost.new.self.outgoing from st)
    (sym (ap (λ t. t.standing) same))
    (subst
    (λ (o : List ℕ).
    GreetsAll (texts c.in-Ok.fed.lines.items) is_too_long greeted before o from said.standing)
    (sym (ap (λ t. t.outgoing) same))
    (subst (λ ls. GreetsAll (texts ls) is_too_long greeted before said.outgoing from said.standing)
    c.deref.ensures.value all))
