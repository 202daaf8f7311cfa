use Rattle.std.proofs.Common.{◌≡◌, [], All, sym, subst}
use Rattle.std.proofs.lemmas.List.Elements.{All-push}
use Rattle.x_simulation.proofs.sink.sinks_for.Goals as goal

pub loop-gate-preserved : goal.loop-gate-preserved
loop-gate-preserved g c =
    subst (All (λ sink. sink.taken ≡ [])) (sym c.in_ok-push.ensures.items)
    (All-push (λ sink. sink.taken ≡ []) c.loop-gate.sinks.items _
    c.loop-gate.invariant c.new-sink.ensures.taken)
