-- What the members so far are told.
use Rattle.std.proofs.Common.{◌≡◌, List, map, take}
use Rattle.ingress.specs.Ingested.{datagram_of}
use Rattle.ingress.specs.Sources.{Known}
use Rattle.ingress.specs.Reported.{told_to_members}
use Rattle.ingress.specs.inner.Holding.{Holds}
use Rattle.ingress.proofs.ingress.Ingress.told_to.Given as goal

abbrev pub invariant-loop-member : goal.invariant-loop-member
invariant-loop-member g l =
    (known : List Known) → Holds l.self.entries known
    → map datagram_of l.up.items ≡ told_to_members l.self.asker l.sources l.moment known (take l.member-index l.members)
