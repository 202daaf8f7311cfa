-- Places within a list that grows. No public clause cites them.
use Rattle.std.specs.Prelude.{ℕ, ◌+◌, Bool, true, ◌&&◌, List, [], ◌∷◌, nat_le}
use Rattle.desk_rows.specs.declared.edit.Placed.{Placed}

-- a test of places that walks the rows once
abbrev pub put_within : ℕ → List Placed → Bool
put_within n [] = true
put_within n (p ∷ ps) = nat_le p.place n && put_within (n + 1) ps
