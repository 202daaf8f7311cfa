-- The blocks of the sources so far.
use Rattle.std.proofs.Common.{◌≡◌, List, take}
use Rattle.std.specs.List.{AllByRecursion}
use Rattle.rtcp_codec.specs.Report.{FitsLost}
use Rattle.ingress.specs.Sources.{Known}
use Rattle.ingress.specs.Reported.{blocks_of}
use Rattle.ingress.specs.inner.Holding.{Holds}
use Rattle.ingress.proofs.known.Known.blocks_of.Given as goal

abbrev pub invariant-loop-source : goal.invariant-loop-source
invariant-loop-source g l =
    ((known : List Known) → Holds l.self known
    → l.blocks.items ≡ blocks_of (take l.source-index l.sources) l.moment known l.member)
    × AllByRecursion (λ b. FitsLost b.lost) l.blocks.items
