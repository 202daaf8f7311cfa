use Rattle.std.proofs.Common.{◌≡◌, ◌∙◌, ◌∷◌, ◌++◌, [], List, sym, ap, subst}
use Rattle.ingress.specs.declared.outcome_class.OutcomeClass.{OutcomeClass}
use Rattle.bridge_stats.specs.declared.taken.TakenIn.{TakenIn}
use Rattle.bridge_stats.specs.Kinds.{line_place}
use Rattle.bridge_stats.specs.Logs.{taken_list}
use Rattle.bridge_stats.specs.inner.Tallies.{AreSums, one, its_octets}
use Rattle.bridge_stats.proofs.TallyLemmas.{sums_more}
use Rattle.bridge_stats.proofs.tally.OutcomeTally.note.Goals as goal

pub invariant_of-self : goal.invariant_of-self
invariant_of-self c =
    let here = c.self.inside in
    let t = c.args.taken.now in
    let all = taken_list here.log in
    let place = c.line_place-place.result in
    let at =
    c.line_place-place.ensures.place ∙ ap (λ (class : OutcomeClass). line_place class.kind) c.class.ensures in
    let few = c.line_place-place.ensures.few in (
      subst (AreSums one _) (sym c.note.ensures)
          (sums_more one here.datagrams all t place c.saturating_add.result at few c.saturating_add.ensures
          c.self.invariant.0),
      subst (AreSums its_octets _) (sym c.note.ensures)
          (sums_more its_octets here.octets all t place c.saturating_add-2.result at few c.saturating_add-2.ensures
          c.self.invariant.1),
    )
