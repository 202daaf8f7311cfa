-- A source whose samples come late.
use Rattle.std.specs.Prelude.{ℕ, pos, List, [], ◌∷◌}
use Rattle.rtp_codec.specs.declared.address.Address.{Address}
use Rattle.playout.specs.Playouts.{AudioEvent, PutOf, TakeAll}

-- the address of the source's member
abbrev pub member : Address
member = record { ip = 127 ∷ 0 ∷ 0 ∷ 1 ∷ []; port = 7 }

-- a sample of source 21 came at this rate, and 260 ms were taken: its place is 200 ms before the position
abbrev pub long_ago : (rate : ℕ) → List AudioEvent
long_ago rate =
    PutOf 21 member rate 1000 (pos 5 ∷ [])
    ∷ TakeAll ∷ TakeAll ∷ TakeAll ∷ TakeAll ∷ TakeAll ∷ TakeAll ∷ TakeAll ∷ TakeAll ∷ TakeAll ∷ TakeAll ∷ TakeAll
    ∷ TakeAll ∷ TakeAll ∷ []
