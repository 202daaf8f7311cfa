-- Up to two things.
use Rattle.std.specs.Prelude.{List, [], ◌∷◌}
use Rattle.desk_rows.specs.declared.few.Few.{Few}
use Rattle.desk_rows.specs.declared.few.Few.TheVariants.{Nothing, One, Two}

-- the things, in a list
abbrev pub listed : {X : Type 0} → Few X → List X
listed Nothing = []
listed (One x) = x ∷ []
listed (Two x y) = x ∷ y ∷ []
