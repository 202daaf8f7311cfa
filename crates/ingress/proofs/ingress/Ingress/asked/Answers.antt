use Rattle.std.proofs.Common.{◌≡◌, ◌∙◌, ap, map, sym, subst, IfOk, ◌&&◌, not, [], ◌∷◌, if◌then◌else◌}
use Rattle.ingress.specs.Ingested.{datagram_of}
use Rattle.ingress.specs.Taking.{asking}
use Rattle.ingress.proofs.Results.{from_fact}
use Rattle.ingress.proofs.Voices.{some_asked}
use Rattle.ingress.proofs.AboutLemmas.{one_to}
use Rattle.ingress.proofs.ingress.Ingress.asked.Goals as goal

pub returns-clause-asked : goal.returns-clause-asked
returns-clause-asked g c = λ voice is asker.
    let some = some_asked _ _ c.else-is_empty.either in
    let there = ap (λ e. e && not c.args.pli) (sym c.is_empty.ensures) ∙ some in
    let octets = c.in_ok-octets.ensures voice is asker in
    subst (λ x. IfOk c.one_datagram.result (λ d. map datagram_of d.items ≡ x))
    (ap (λ x. (c.args.origin.address, x) ∷ []) octets
    ∙ ap
    (λ b. if b then [] else (c.args.origin.address, asking voice c.args.origin.ssrc c.args.nacks.now c.args.pli) ∷ [])
    (sym there))
    c.one_datagram.ensures

pub returns-clause-about : goal.returns-clause-about
returns-clause-about g c =
    from_fact c.one_datagram.result c.one_datagram.ensures
    (λ up is. one_to c.args.origin.address c.in_ok-octets.octets.items (map datagram_of up.items) is)
