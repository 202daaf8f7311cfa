-- Items that are given to every lane (own).
use Rattle.std.specs.Prelude.{ℕ, List, [], ◌∷◌, map}
use Rattle.std.specs.List.{flat_map, range_with_len}
use Rattle.bridge_core.specs.Steps.{Step}

-- a step on so many lanes: an item is given to each of them, whichever it was for
abbrev pub for_every : ℕ → Step → List Step
for_every lanes (Step.publish desk) = Step.publish desk ∷ []
for_every lanes (Step.item to input) = map (λ lane. Step.item lane input) (range_with_len 0 lanes)

-- the steps on so many lanes
abbrev pub to_every : ℕ → List Step → List Step
to_every lanes steps = flat_map (for_every lanes) steps
