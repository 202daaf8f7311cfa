use Rattle.std.proofs.Common.{◌≡◌, ◌++◌, ℕ, List, Result, Ok, Err, OnOk, refl}
use Rattle.ingress.specs.inner.Holding.{IngressOf}
use Rattle.bridge_stats.specs.declared.shown.StatsShown.{StatsShown}
use Rattle.bridge_stats.specs.Stats.{StatsOf}
use Rattle.bridge_stats.specs.Shown.{IsShown}
use Rattle.bridge_stats.specs.Levels.{levels_text}
use Rattle.bridge_monitor.specs.Told.{TellsLevels}
use Rattle.bridge_monitor.proofs.stats_rows.RowsKept.print_levels.Goals as goal

-- what is printed of rows that show what was counted tells the levels
told_by : {A B : Type 0} (r : Result A B) (shown : StatsShown) (old new : List ℕ) (now : ℕ) (ingress : IngressOf)
    (stats : StatsOf)
    → IsShown now ingress stats shown → OnOk r (new ≡ old ++ levels_text shown)
    → OnOk r ((text : List ℕ) × (new ≡ old ++ text) × TellsLevels text)
told_by (Ok a) shown old new now ingress stats is k = (
  levels_text shown,
  k,
  record { shown = shown; counted = (now, ingress, stats, is); says = refl },
)
told_by (Err b) shown old new now ingress stats is k = tt {0}

pub returns-clause-ok : goal.returns-clause-ok
returns-clause-ok c now ingress stats is =
    told_by c.print_levels.result c.args.self.now.counted c.args.out.now.items c.print_levels.new.out.items now ingress
    stats is c.print_levels.ensures.ok
