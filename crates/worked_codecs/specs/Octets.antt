-- Octets by the words of 32 bits that they make.
use Rattle.std.specs.Prelude.{ℕ, ◌/◌, ◌%◌, ◌^◌, List, [], ◌∷◌}

-- the octets of words in network order
abbrev pub octets_of : List ℕ → List ℕ
octets_of [] = []
octets_of (w ∷ ws) = w / 2 ^ 24 ∷ w / 2 ^ 16 % 256 ∷ w / 2 ^ 8 % 256 ∷ w % 256 ∷ octets_of ws
