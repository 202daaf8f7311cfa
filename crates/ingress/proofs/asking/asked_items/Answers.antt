use Rattle.std.proofs.Common.{◌++◌, ap, sym, ◌∙◌}
use Rattle.rtcp_codec.specs.View.{packet_of}
use Rattle.ingress.specs.Control.{asks}
use Rattle.ingress.proofs.Turns.{asked_more}
use Rattle.ingress.proofs.asking.asked_items.Goals as goal

pub loop-packet-preserved : goal.loop-packet-preserved
loop-packet-preserved g c =
    c.in_ok-put_asked.ensures
    ∙ ap (λ front. front ++ asks c.args.from.now (packet_of c.packet-item.result)) c.loop-packet.invariant
    ∙ sym (asked_more c.args.from.now c.args.packets.now c.loop-packet.packet-index c.packet-item.result
    c.loop-packet-test.true c.packet-item.is)
