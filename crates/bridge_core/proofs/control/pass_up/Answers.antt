use Rattle.std.proofs.Common.{List, ℕ, [], ◌∷◌, cond, true, refl, ap, sym, ◌∙◌}
use Rattle.std.proofs.lemmas.Result.{IfOk-weaker}
use Rattle.rtp_codec.specs.declared.address.Address.{Address}
use Rattle.rtcp_codec.specs.Compound.{written}
use Rattle.sender_feedback.specs.Upstream.{upstream_packets}
use Rattle.receiver_feedback.specs.PassedUp.{pli_up}
use Rattle.media_items.specs.Inputs.{Input, Loss}
use Rattle.bridge_core.specs.Lanes.{controls, passed_up}
use Rattle.bridge_core.specs.inner.Visits.{visit_on, asker_of}
use Rattle.bridge_core.proofs.control.pass_up.Goals as goal

pub returns : goal.returns
returns g c =
    let loss : Loss = record { from = c.args.from.now; out_ssrc = c.args.out_ssrc } in
    let at = c.args.visit.now in
    let visit = visit_on at (Input.pli loss) in
    let to : Address = record { ip = c.in-Some.to.ip; port = c.in-Some.to.port } in
    let packet = λ (octets : List ℕ). controls visit c.args.out_ssrc to octets ∷ [] in
    let asked = λ (cname : List ℕ).
    written
    (upstream_packets (record { ssrc = at.settings.now.bridge_ssrc; cname = cname }) c.in-Some.source [] true) in
    let mine = sym c.is_mine.ensures ∙ c.if-not-is_mine.false in
    IfOk-weaker c.only.result _ _ (λ sent is.
    is
    ∙ ap packet
    (c.in_ok-bytes.ensures.packed [] (record { names = refl; packed = tt; fits = tt }) ∙ ap asked c.deref.ensures)
    ∙ ap (passed_up (asker_of at) visit loss) (sym c.in-Some.is ∙ c.pli_up.ensures)
    ∙ sym
    (ap (λ b. cond b (passed_up (asker_of at) visit loss (pli_up at.rows.now c.args.from.now c.args.out_ssrc)) [])
    mine))
    c.only.ensures
