use Rattle.std.proofs.Common.{List, [], ◌∷◌, ◌++◌, ℕ, ap}
use Rattle.bridge_stats.proofs.GrowLemmas.{grows_same, said_texts}
use Rattle.bridge_stats.proofs.appending.append_tail.Goals as goal

pub returns : goal.returns
returns g c =
    grows_same _ _ _ _ _ (ap (λ (t : List ℕ). t ++ 10 ∷ []) (said_texts c.args.fields.now)) c.append_rest.ensures
