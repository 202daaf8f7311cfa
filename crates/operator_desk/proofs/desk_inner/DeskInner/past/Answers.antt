use Rattle.std.proofs.Common.{sym, ap, subst, ◌∙◌}
use Rattle.std.proofs.lemmas.Result.{IfOk-weaker}
use Rattle.call_history.specs.Lists.{ListsOf, in_force, last_few}
use Rattle.operator_desk.specs.PastCalls.{PastOf, IsPast}
use Rattle.operator_desk.specs.inner.DeskInner.{InnerOf}
use Rattle.operator_desk.proofs.desk_inner.DeskInner.past.Goals as goal

pub returns-clause-log : goal.returns-clause-log
returns-clause-log g c =
    let log = ap (λ (h : InnerOf). h.log) c.self.view_is in
    IfOk-weaker c.new.result _ _ (λ past is. ap (λ (p : PastOf). p.log) is ∙ log) c.new.ensures

pub returns-clause-past : goal.returns-clause-past
returns-clause-past g c =
    let start = g.H.DeskBrand.start in
    let most = c.args.most in
    let same = c.self.invariant.6 in
    let done = c.deref.ensures.value
    ∙ c.in_ok-done.ensures
    ∙ ap (λ (l : ListsOf). last_few most (in_force l.done)) same in
    let undone = c.undone-undone.ensures ∙ ap (λ (l : ListsOf). last_few most l.undone) same in
    let legal = c.self.invariant.3.legal in
    IfOk-weaker c.new.result _ _
    (λ past is. subst (IsPast start most) (sym is) (record { legal = legal; done = done; undone = undone }))
    c.new.ensures
