use Rattle.std.proofs.Common.{◌≡◌, [], All, sym, subst}
use Rattle.std.proofs.lemmas.List.Elements.{All-push}
use Rattle.rtrb.specs.Ring.{sent}
use Rattle.x_tests_lanes.proofs.rings.outfits.Goals as goal

pub loop-pace-preserved : goal.loop-pace-preserved
loop-pace-preserved g c =
    subst (All (λ outfit. sent outfit.1 ≡ [])) (sym c.in_ok-push.ensures.items) (All-push (λ outfit. sent outfit.1 ≡ [])
    c.loop-pace.outfits.items _ c.loop-pace.invariant c.in_ok-sink.ensures.producer.0)
