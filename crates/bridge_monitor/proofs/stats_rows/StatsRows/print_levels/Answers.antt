use Rattle.std.proofs.Common.{Bool, subst}
use Rattle.std.specs.Bool.{OnTrue}
use Rattle.bridge_monitor.specs.Told.{ShowsCounts}
use Rattle.bridge_monitor.proofs.stats_rows.StatsRows.print_levels.Goals as goal

pub returns-then-self-clause-ok : goal.returns-then-self-clause-ok
returns-then-self-clause-ok c =
    let rows = c.self.inside.kept.counted in
    let shows : ShowsCounts rows =
    subst (λ (b : Bool). OnTrue b (ShowsCounts rows)) c.if-self.true c.self.invariant in
    c.print_levels.ensures.ok shows.0 shows.1 shows.2 shows.3
