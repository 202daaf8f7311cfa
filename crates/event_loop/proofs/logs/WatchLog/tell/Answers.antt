use Rattle.std.proofs.Common.{◌∙◌, ℕ, List, ap, sym, subst}
use Rattle.event_loop.specs.Logs.{told_list}
use Rattle.event_loop.specs.Moments.{AreUpTo, latest}
use Rattle.event_loop.proofs.MomentLemmas.{latest_told, up_to_latest}
use Rattle.event_loop.proofs.logs.WatchLog.tell.Goals as goal

pub invariant_of-self : goal.invariant_of-self
invariant_of-self c =
    let a = c.self.inside in
    latest_told a.last c.args.moment c.max-moment.result (told_list a.told) c.self.invariant c.max-moment.ensures
    ∙ ap (λ (l : List ℕ). latest l) (sym c.note.ensures)

pub returns-clause-rising : goal.returns-clause-rising
returns-clause-rising c =
    let a = c.self.inside in
    subst (λ (l : List ℕ). AreUpTo c.max-moment.result l) c.self.view_is
    (up_to_latest a.last c.args.moment c.max-moment.result (told_list a.told) c.self.invariant c.max-moment.ensures)
