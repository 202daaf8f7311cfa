use Rattle.std.proofs.Common.{◌∙◌, ap}
use Rattle.frame_gate.specs.declared.packet.Place.TheVariants.{Taken}
use Rattle.ingress.specs.inner.SourceEntries.{ValidatedOf}
use Rattle.ingress.specs.inner.Moves.{outcome_at}
use Rattle.ingress.proofs.ReceivedLemmas.{of_taken}
use Rattle.ingress.proofs.ingress.Ingress.verdict_with.Goals as goal

pub returns-clause-packet : goal.returns-clause-packet
returns-clause-packet g c =
    let j : ValidatedOf = c.args.validated.now in
    of_taken c.args.self.now c.advance.new.self c.args.key j _ Taken _
    (c.outcome_at.ensures ∙ ap (λ (x : ValidatedOf). outcome_at x.verdict Taken) c.validated.view_is)
    (ap (λ (x : ValidatedOf). x.begins) c.validated.view_is)
    c.in_ok-advance.ensures.advances
