use Rattle.std.proofs.Common.{List, [], length, sym, ap, subst, ◌∙◌}
use Rattle.bridge_core.specs.Sent.{Sent}
use Rattle.bridge_core.specs.Headline.{HaveNoGap, numbers}
use Rattle.plain_laws.specs.SentLists.{first_sent}
use Rattle.plain_laws.proofs.RunAlong.{gone_along}
use Rattle.plain_laws.proofs.laws.streams_go_on.Goals as goal

pub returns-clause-called : goal.returns-clause-called
returns-clause-called c start steps sent first last taken h all run name =
    let who = first.ingress.asker in
    let lanes = length first.lanes in
    let went = gone_along start [] steps sent first last taken run in
    subst (λ (some : List Sent). HaveNoGap (numbers some))
    (sym (ap (first_sent name steps) went.0 ∙ c.first_sendings_are_the_same.ensures who lanes start steps name))
    (c.streams_have_no_gap.ensures who lanes start steps name h all)

pub returns-clause-held : goal.returns-clause-held
returns-clause-held c who lanes start steps sent holds name =
    subst (λ (some : List Sent). HaveNoGap (numbers some))
    (sym (ap (first_sent name steps) holds.given ∙ c.first_sendings_are_the_same.ensures who lanes start steps name))
    (holds.no_gap name)
