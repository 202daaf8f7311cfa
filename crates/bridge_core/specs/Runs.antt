-- Cores in a row, from one step to the next (own).
use Rattle.std.specs.Prelude.{◌≡◌, List, [], ◌∷◌, ◌++◌, length}
use Rattle.bridge_core.specs.Sent.{Sent}
use Rattle.bridge_core.specs.Steps.{Step, CoreOf, Takes}

-- from the first core to the last, each takes one of the steps, has as many lanes and the same name; what is sent at
-- each is joined in order
abbrev pub Runs : CoreOf → List Step → List (List Sent) → CoreOf → Type 0
Runs first [] sent last = (sent ≡ []) × (last ≡ first)
Runs first (step ∷ steps) sent last =
    (next : CoreOf) × (now : List (List Sent)) × (later : List (List Sent)) ×
    (sent ≡ now ++ later) × Takes first next step now × (length next.lanes ≡ length first.lanes)
    × (next.ingress.asker ≡ first.ingress.asker) × Runs next steps later last
