-- Cores in a row, from one step to the next (own).
use Rattle.std.specs.Prelude.{◌≡◌, List, [], ◌∷◌, ◌++◌, length}
use Rattle.bridge_core.specs.Sent.{Sent}
use Rattle.bridge_core.specs.Steps.{Step, CoreOf, Takes}
use Rattle.bridge_core.specs.Events.{Listens}

-- From the first core to the last, each takes one of the steps; what is sent at each is joined in order. Before each
-- step, and after the last one, the receive side may take in datagrams and report.
abbrev pub GoesThrough : CoreOf → List Step → List (List Sent) → CoreOf → Type 0
GoesThrough first [] sent last = (sent ≡ []) × Listens first last
GoesThrough first (step ∷ steps) sent last =
    (ready : CoreOf) × (next : CoreOf) × (now : List (List Sent)) × (later : List (List Sent)) × (sent ≡ now ++ later)
    × Listens first ready × Takes ready next step now × (length next.lanes ≡ length ready.lanes)
    × (next.ingress.asker ≡ ready.ingress.asker) × GoesThrough next steps later last
