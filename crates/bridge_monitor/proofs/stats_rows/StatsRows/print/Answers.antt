use Rattle.std.proofs.Common.{◌≡◌, Bool, subst}
use Rattle.std.specs.Bool.{OnTrue}
use Rattle.bridge_monitor.specs.Told.{ShowsCounts}
use Rattle.bridge_monitor.proofs.stats_rows.StatsRows.print.Goals as goal

pub returns-clause-ok : goal.returns-clause-ok
returns-clause-ok c =
    let rows = c.self.inside.kept.counted in
    let shows : ShowsCounts rows =
    subst (λ (b : Bool). OnTrue b (ShowsCounts rows)) c.if-not-self.false c.self.invariant in
    c.print.ensures.ok shows.0 shows.1 shows.2 shows.3
