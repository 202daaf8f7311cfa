use Rattle.std.proofs.Common.{◌∙◌, [], ◌∷◌, subst, sym, arith, length-append}
use Rattle.media_workers.specs.Bridges.{AllEnded, AllFeed, AllTold}
use Rattle.media_workers.proofs.BridgeLemmas.{AllEnded-push, AllFeed-push, AllTold-push}
use Rattle.media_workers.proofs.every_port.finish_all.Goals as goal

pub loop-port-preserved : goal.loop-port-preserved
loop-port-preserved g c = record {
  ended =
      subst (AllEnded g.P.Pace.answers g.S.Sink.taken _) (sym c.push_reserved.ensures.items)
      (AllEnded-push g.P.Pace.answers g.S.Sink.taken c.loop-port.yielded c.loop-port.ends.items c.in-Some.port
      c.finish.result c.loop-port.invariant.ended c.finish.ensures.ended);
  fed =
      subst (AllFeed g.S.Sink.feeds _) (sym c.push_reserved.ensures.items)
      (AllFeed-push g.S.Sink.feeds c.loop-port.yielded
      c.loop-port.ends.items c.in-Some.port c.finish.result c.loop-port.invariant.fed c.finish.ensures.fed);
  told =
      subst (AllTold g.P.Pace.answers g.S.Sink.taken g.S.Sink.heard _) (sym c.push_reserved.ensures.items)
      (AllTold-push g.P.Pace.answers g.S.Sink.taken g.S.Sink.heard c.loop-port.yielded c.loop-port.ends.items
      c.in-Some.port c.finish.result c.loop-port.invariant.told c.finish.ensures.told);
  len =
      omega (
        arith,
        c.push_reserved.ensures.len,
        c.loop-port.invariant.len,
        length-append c.loop-port.yielded (c.in-Some.port ∷ []),
      );
  capacity = c.push_reserved.ensures.capacity ∙ c.loop-port.invariant.capacity;
}
