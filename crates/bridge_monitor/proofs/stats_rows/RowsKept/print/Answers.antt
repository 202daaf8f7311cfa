use Rattle.std.proofs.Common.{◌≡◌, ◌++◌, ℕ, List, Result, Ok, Err, OnOk, refl}
use Rattle.ingress.specs.inner.Holding.{IngressOf}
use Rattle.bridge_stats.specs.declared.others.Seats.{Seats}
use Rattle.bridge_stats.specs.declared.others.SocketRow.{SocketRow}
use Rattle.bridge_stats.specs.declared.others.OthersShown.{OthersShown}
use Rattle.bridge_stats.specs.declared.shown.StatsShown.{StatsShown}
use Rattle.bridge_stats.specs.Stats.{StatsOf}
use Rattle.bridge_stats.specs.Shown.{IsShown, stats_text}
use Rattle.bridge_monitor.specs.Told.{TellsCounts}
use Rattle.bridge_monitor.proofs.stats_rows.RowsKept.print.Goals as goal

-- what is printed of rows that show what was counted tells it
told_by : {A B : Type 0} (r : Result A B) (buffers : SocketRow) (in_use : Seats) (shown : StatsShown)
    (others : OthersShown)
    (old new : List ℕ) (now : ℕ) (ingress : IngressOf) (stats : StatsOf)
    → IsShown now ingress stats shown → others.socket ≡ buffers → others.seats ≡ in_use
    → OnOk r (new ≡ old ++ stats_text shown others)
    → OnOk r ((text : List ℕ) × (new ≡ old ++ text) × TellsCounts buffers in_use text)
told_by (Ok a) buffers in_use shown others old new now ingress stats is of same k = (
  stats_text shown others,
  k,
  record {
    shown = shown;
    others = others;
    counted = (now, ingress, stats, is);
    socket = of;
    seats = same;
    says = refl;
  },
)
told_by (Err b) buffers in_use shown others old new now ingress stats is of same k = tt {0}

pub returns-clause-ok : goal.returns-clause-ok
returns-clause-ok c now ingress stats is =
    told_by c.print_stats.result c.args.socket c.args.seats c.args.self.now.counted c.others-others.result
    c.args.out.now.items c.print_stats.new.out.items now ingress stats is c.others-others.ensures.socket
    c.others-others.ensures.seats c.print_stats.ensures.ok
