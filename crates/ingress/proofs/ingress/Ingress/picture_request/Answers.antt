use Rattle.std.proofs.Common.{◌∙◌, ap, sym, refl, List, ℕ, [], true}
use Rattle.rtcp_codec.specs.Compound.{written}
use Rattle.sender_feedback.specs.Upstream.{upstream_packets}
use Rattle.ingress.specs.Taking.{picture_request}
use Rattle.ingress.proofs.ingress.Ingress.picture_request.Goals as goal

pub returns : goal.returns
returns g c =
    let ssrc = c.args.ssrc in
    let asked = λ (cname : List ℕ).
    written (upstream_packets (record { ssrc = c.self.inside.settings.bridge_ssrc; cname = cname }) ssrc [] true) in
    ap (λ octets. (c.args.to.now, octets))
    (c.in_ok-octets.ensures.packed [] (record { names = refl; packed = tt; fits = tt }) ∙ ap asked c.deref.ensures)
    ∙ ap (λ i. picture_request i.asker (record { address = c.args.to.now; ssrc = ssrc })) c.self.view_is
