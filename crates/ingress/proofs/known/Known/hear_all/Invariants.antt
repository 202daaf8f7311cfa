-- The sender reports so far were noted.
use Rattle.std.proofs.Common.{List, take}
use Rattle.rtcp_codec.specs.View.{packets_of}
use Rattle.ingress.specs.Sources.{Known}
use Rattle.ingress.specs.Control.{noted_all}
use Rattle.ingress.specs.inner.Holding.{Holds}
use Rattle.ingress.proofs.known.Known.hear_all.Given as goal

abbrev pub invariant-loop-packet : goal.invariant-loop-packet
invariant-loop-packet g l =
    (known : List Known) → Holds l.fn.self known
    → Holds l.self (noted_all l.from l.moment known (packets_of (take l.packet-index l.packets)))
