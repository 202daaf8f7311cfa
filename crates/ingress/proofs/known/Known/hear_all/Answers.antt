use Rattle.std.proofs.Common.{List, sym, subst}
use Rattle.ingress.specs.Sources.{Known}
use Rattle.ingress.specs.inner.Holding.{Holds}
use Rattle.ingress.proofs.Turns.{noted_more}
use Rattle.ingress.proofs.known.Known.hear_all.Goals as goal

pub loop-packet-preserved : goal.loop-packet-preserved
loop-packet-preserved g c = λ known h.
    subst (λ (ks : List Known). Holds c.hear_packet.new.self ks)
    (sym (noted_more c.args.from.now c.args.moment known c.args.packets.now c.loop-packet.packet-index
    c.packet-item.result c.loop-packet-test.true c.packet-item.is))
    (c.hear_packet.ensures _ (c.loop-packet.invariant known h))
