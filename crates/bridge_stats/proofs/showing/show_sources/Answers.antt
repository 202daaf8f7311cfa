use Rattle.std.proofs.Common.{List, All, sym, subst}
use Rattle.std.proofs.lemmas.List.Elements.{All-push}
use Rattle.bridge_stats.specs.declared.rows.SourceRow.{SourceRow}
use Rattle.bridge_stats.specs.Shown.{source_row, counts_in, TellsReception}
use Rattle.bridge_stats.proofs.ShownLemmas.{next_row}
use Rattle.bridge_stats.proofs.showing.show_sources.Goals as goal

pub loop-sender-preserved : goal.loop-sender-preserved
loop-sender-preserved g c =
    let tells = TellsReception c.args.ingress.now in
    record {
      counts =
          next_row counts_in (source_row c.args.now) c.loop-sender.out.items _ c.source_row.result _ _ _ _
          c.in_ok-push.ensures.items c.source_row.ensures.counts c.in-Some.ensures.steps c.loop-sender.invariant.counts;
      receptions =
          subst (λ (rows : List SourceRow). All tells rows) (sym c.in_ok-push.ensures.items)
          (All-push tells c.loop-sender.out.items c.source_row.result c.loop-sender.invariant.receptions
          c.source_row.ensures.reception);
    }
