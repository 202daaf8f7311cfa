-- What goes up to source 101 in the examples, from SSRC 1, which has the canonical name `bridge`.
use Rattle.std.specs.Prelude.{ℕ, List, [], ◌∷◌}
use Rattle.std.specs.List.{flat_map}
use Rattle.std.specs.Int.{w32, to_be_bytes}

-- the octets of words of 32 bits in network order
abbrev pub octets_of : List ℕ → List ℕ
octets_of words = flat_map (to_be_bytes w32) words

-- a receiver report without blocks, and the name
abbrev pub introduction : List ℕ
introduction = 0x80c90001 ∷ 0x00000001 ∷ 0x81ca0004 ∷ 0x00000001 ∷ 0x01066272 ∷ 0x69646765 ∷ 0x00000000 ∷ []

-- a NACK of one word
abbrev pub nack : ℕ → List ℕ
nack word = 0x81cd0003 ∷ 0x00000001 ∷ 0x00000065 ∷ word ∷ []

-- a PLI
abbrev pub pli : List ℕ
pli = 0x81ce0002 ∷ 0x00000001 ∷ 0x00000065 ∷ []
