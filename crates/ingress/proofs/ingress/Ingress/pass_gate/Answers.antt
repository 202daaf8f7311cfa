use Rattle.std.proofs.Common.{◌≡◌, arith, to_z, of_z, w64}
use Rattle.std.proofs.lemmas.Int.{to_z-of_z}
use Rattle.ingress.proofs.Happens.{gates_from}
use Rattle.ingress.proofs.Results.{from_fact}
use Rattle.ingress.proofs.ingress.Ingress.pass_gate.Goals as goal

pub returns-clause-gates : goal.returns-clause-gates
returns-clause-gates g c =
    let same : to_z w64 (of_z w64 c.args.ext) ≡ c.args.ext = grind (arith, to_z-of_z) in
    from_fact c.at_gate.result (c.at_gate.ensures.gates _ c.in_ok-admission.ensures.admits)
    (λ ingest gates.
    gates_from _ _ _ _ _ _ _ _ _ _ _ c.in_ok-packet.ensures.same c.in_ok-packet.ensures.packet same gates)
