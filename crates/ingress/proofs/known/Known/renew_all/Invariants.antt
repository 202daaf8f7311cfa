-- The sources so far have new intervals.
use Rattle.std.proofs.Common.{List, take}
use Rattle.ingress.specs.Sources.{Known}
use Rattle.ingress.specs.Reported.{all_renewed}
use Rattle.ingress.specs.inner.Holding.{Holds}
use Rattle.ingress.proofs.known.Known.renew_all.Given as goal

abbrev pub invariant-loop-source : goal.invariant-loop-source
invariant-loop-source g l =
    (known : List Known) → Holds l.fn.self known
    → Holds l.self (all_renewed l.rows known (take l.source-index l.sources))
