use Rattle.std.proofs.Common.{◌≡◌, Bool, subst}
use Rattle.std.specs.Bool.{OnTrue}
use Rattle.bridge_monitor.specs.Told.{ShowsCounts}
use Rattle.bridge_monitor.proofs.stats_rows.StatsRows.show_again.Goals as goal

pub invariant_of-self-in-Ok : goal.invariant_of-self-in-Ok
invariant_of-self-in-Ok c =
    let rows = c.others.inside.kept.counted in
    let shows : ShowsCounts rows =
    subst (λ (b : Bool). OnTrue b (ShowsCounts rows)) c.if-not-others.false c.others.invariant in (
      shows.0,
      shows.1,
      shows.2,
      c.in-Ok.ensures shows.0 shows.1 shows.2 shows.3,
    )
