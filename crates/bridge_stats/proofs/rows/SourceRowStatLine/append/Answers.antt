use Rattle.std.proofs.Common.{codes}
use Rattle.bridge_stats.specs.Received.{reception_parts}
use Rattle.bridge_stats.specs.Shown.{count_parts}
use Rattle.bridge_stats.specs.Why.{why_parts}
use Rattle.bridge_stats.proofs.GrowLemmas.{grows_same, line_thirds}
use Rattle.bridge_stats.proofs.rows.SourceRowStatLine.append.Goals as goal

pub returns : goal.returns
returns g c =
    let row = c.args.self.now in
    grows_same _ _ _ _ _
    (line_thirds (codes "source") (count_parts row) (reception_parts row.reception row.numbers)
    (why_parts row.reception row.numbers))
    (rw (
      c.sender_address.ensures,
      c.from.ensures,
      c.saturating_sub.ensures,
      c.reception_fields-received.ensures,
      c.why_fields-why.ensures,
    ) at c.append_longest_line.ensures)
