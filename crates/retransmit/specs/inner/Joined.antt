-- The octets of a packet in two parts.
use Rattle.std.specs.Prelude.{ℕ, List, ◌++◌, Option, None, Some}

-- a header, where there is one, and the other octets behind it
abbrev pub joined : Option (List ℕ) → List ℕ → List ℕ
joined None rest = rest
joined (Some header) rest = header ++ rest
