use Rattle.std.proofs.Common.{ap, ◌∙◌, [], take, reverse}
use Rattle.call_history.specs.Lists.{CallListsOf, standing, in_force, last_few}
use Rattle.call_history.proofs.Newest.{few_turned}
use Rattle.call_history.proofs.lists.CallLists.in_force.Goals as goal

pub returns : goal.returns
returns g c =
    let most = c.args.most in
    let done = c.self.inside.done.items in
    c.reverse.ensures.items
    ∙ ap reverse
    (c.in_ok-calls.ensures ∙ ap (λ ms. take most (standing [] (reverse ms))) c.deref.ensures.value)
    ∙ few_turned most (standing [] (reverse done))
    ∙ ap (λ (l : CallListsOf). last_few most (in_force l.lists.done)) c.self.view_is
