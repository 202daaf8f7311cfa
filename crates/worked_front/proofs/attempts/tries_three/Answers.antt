use Rattle.std.proofs.Common.{◌≡◌, length, map, sym, ap, ◌∙◌}
use Rattle.std.proofs.lemmas.List.{length-map}
use Rattle.udp_wire.specs.Attempts.{tried_of}
use Rattle.worked_front.proofs.Failures.{failures_of}
use Rattle.worked_front.proofs.attempts.tries_three.Goals as goal

pub returns : goal.returns
returns g c =
    let grew = c.send_all.ensures in (
      grew.0,
      grew.1,
      sym (length-map grew.0 tried_of) ∙ (ap length grew.2 ∙ c.requires),
      λ flags. grew.3 ∙ failures_of grew.0 _ flags,
    )
