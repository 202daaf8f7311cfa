use Rattle.std.proofs.Common.{◌≡◌, [], All, sym, subst}
use Rattle.std.proofs.lemmas.List.Elements.{All-push}
use Rattle.rtrb.specs.Ring.{sent}
use Rattle.x_bench.proofs.paces.paces_for.Goals as goal

pub loop-lane-preserved : goal.loop-lane-preserved
loop-lane-preserved g c =
    subst (All (λ outfit. sent outfit.1 ≡ [])) (sym c.in_ok-push.ensures.items) (All-push (λ outfit. sent outfit.1 ≡ [])
    c.loop-lane.outfits.items _ c.loop-lane.invariant c.in_ok-sink.ensures.producer.0)
