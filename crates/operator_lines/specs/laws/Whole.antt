-- A stream out of its parts.
use Rattle.std.specs.Prelude.{◌≢◌, ℕ, List, [], ◌∷◌, ◌++◌}
use Rattle.std.specs.List.{AllByRecursion}
use Rattle.operator_lines.specs.Cut.{Cut}

-- no octet of the part is an LF (10)
abbrev pub HasNoLf : List ℕ → Type 0
HasNoLf part = AllByRecursion (λ octet. octet ≢ 10) part

-- each part with an LF behind it
abbrev pub with_lfs : List (List ℕ) → List ℕ
with_lfs [] = []
with_lfs (part ∷ parts) = part ++ 10 ∷ with_lfs parts

-- the stream that was cut so
abbrev pub joined : Cut → List ℕ
joined c = with_lfs c.ended ++ c.rest
