use Rattle.std.proofs.Common.{◌≡◌, ◌∙◌, ◌++◌, List, length, take, drop, map, ap, sym, arith}
use Rattle.std.proofs.lemmas.Grind.{common_steps}
use Rattle.media_workers.specs.Ports.{PortOf}
use Rattle.media_workers.specs.inner.Threads.{lasting}
use Rattle.media_workers.proofs.BridgeLemmas.{AllEnded-alike, AllFeed-alike, AllTold-alike}
use Rattle.media_workers.proofs.every_port.close_all.Goals as goal

pub returns : goal.returns
returns g c =
    let now : List (PortOf g.row.P.Denot g.row.S.Denot) = c.end_each.new.ports in
    let left : take c.args.ports.len (now ++ drop (length now) c.args.ports.items) ≡ now =
    grind (arith, common_steps, c.end_each.auto.ports, c.deref_mut.ensures.len) in
    let same =
    ap (map lasting) (sym c.deref_mut.ensures.value) ∙ (sym c.end_each.ensures ∙ ap (map lasting) (sym left)) in
    record {
      ended =
          AllEnded-alike g.P.Pace.answers g.S.Sink.taken c.args.ports.items _ c.finish_all.result.items same
          c.finish_all.ensures.ended;
      fed = AllFeed-alike g.S.Sink.feeds c.args.ports.items _ c.finish_all.result.items same c.finish_all.ensures.fed;
      told =
          AllTold-alike g.P.Pace.answers g.S.Sink.taken g.S.Sink.heard c.args.ports.items _ c.finish_all.result.items
          same c.finish_all.ensures.told;
    }
