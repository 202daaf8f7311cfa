use Rattle.std.proofs.Common.{◌≡◌, ◌∙◌, ◌<◌, ℕ, zero, suc, List, [], ◌∷◌, All, refl, sym, subst, arith}
use Rattle.std.proofs.lemmas.List.Elements.{All-append}
use Rattle.bridge_server.proofs.sinks.sinks_for.Goals as goal

All_one : {X : Type 0} (P : X → Type 0) (x : X) → P x → All P (x ∷ [])
All_one P x one zero d low = one
All_one P x one (suc k) d low = absurd (omega (arith, low))

pub loop-shown-preserved : goal.loop-shown-preserved
loop-shown-preserved c =
    let k = c.loop-shown.invariant in
    record {
      many = omega (arith, c.push_reserved.ensures.len, k.many);
      capacity = c.push_reserved.ensures.capacity ∙ k.capacity;
      untaken = subst (All (λ sink. sink.taken ≡ [])) (sym c.push_reserved.ensures.items)
          (All-append (λ sink. sink.taken ≡ []) c.loop-shown.sinks.items _ k.untaken
          (All_one (λ sink. sink.taken ≡ []) _ c.sink_of-sink.ensures));
    }
