use Rattle.std.proofs.Common.{◌≡◌, ◌∙◌, ℕ, List, ap, sym}
use denote.Exit.{yes}
use denote.Param.{copied}
use denote.Param.Send.{param_send, arg_send}
use Rattle.sender_feedback.specs.Upstream.{Asker}
use Rattle.lane_wire.specs.contracts.wire_sink.WireSink as WireSink
use Rattle.media_front.specs.Prices.{pli_octets}
use Rattle.published_desk.specs.Published.{ReaderOf}
use Rattle.x_simulation.specs.contracts.sink.FatedWire as FatedWire
use Rattle.x_simulation.proofs.SinkLemmas.{wire_send, sink_send}
use Rattle.x_simulation.proofs.scene.media_of.Goals as goal

pub start-requires-send-S : goal.start-requires-send-S
start-requires-send-S g c κs within =
    let R = copied 1 g.row.R in
    let W = FatedWire.the_row R in
    param_send 2 _ (arg_send _ yes (WireSink.the_row W _) (sink_send W _ (wire_send R c.type_bounds.send-R)))

pub start-requires-clause-publisher : goal.start-requires-clause-publisher
start-requires-clause-publisher g c κs within k d low =
    ap (λ (reader : ReaderOf). reader.publisher) (c.requires.readers k d low)

pub new-media-requires : goal.new-media-requires
new-media-requires g c =
    let here = c.args.settings in
    let copy = c.in_ok-try_clone.field-0 in
    let same : ◌≡◌ {A = Asker} (record { ssrc = copy.bridge_ssrc; cname = copy.cname })
    (record { ssrc = here.bridge_ssrc; cname = here.cname }) =
    ap (λ (s : ℕ). record { ssrc = s; cname = copy.cname }) c.in_ok-try_clone.ensures.0
    ∙ ap (λ (n : List ℕ). record { ssrc = here.bridge_ssrc; cname = n }) c.in_ok-try_clone.ensures.1 in
    record { cost = c.in_ok-cost.ensures ∙ ap pli_octets (sym (c.in_ok-ingress.ensures.asker ∙ same)) }
