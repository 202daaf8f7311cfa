use Rattle.std.proofs.Common.{sym, ◌∙◌}
use Rattle.bridge_core.specs.Lanes.{routed}
use Rattle.bridge_core.proofs.Counted.{counted}
use Rattle.bridge_core.proofs.reporting.Reporting.video_counts.Goals as goal

pub returns-in-Some : goal.returns-in-Some
returns-in-Some g c = λ before mine left.
    counted c.args.ssrc (routed c.args.ssrc before) c.in-Some.stream.now c.counts.result
    (sym (left.0 c.args.ssrc mine) ∙ sym c.in-Some.ensures) c.counts.ensures
