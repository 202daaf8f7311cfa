-- What a front reads where its datagrams come in (own).
use Rattle.std.specs.Prelude.{ℕ, List, take}
use Rattle.rtp_codec.specs.declared.address.Address.{Address}
use Rattle.event_loop.specs.declared.inlet.Read.{Read}
use Rattle.event_loop.specs.declared.inlet.Read.TheVariants.{Datagram, Other, Nothing}

-- what a read gave: a datagram, with the address that it came from, something else, or nothing, since nothing waited
pub data Came : Type 0 where
  datagram : Address → List ℕ → Came
  other : Came
  nothing : Came

-- what a read into a chunk gave
abbrev pub came_by : Read → List ℕ → Came
came_by (Datagram from octets) chunk = datagram from (take octets chunk)
came_by Other chunk = other
came_by Nothing chunk = nothing

-- how many octets of a chunk it speaks of
abbrev pub octets_read : Read → ℕ
octets_read (Datagram from octets) = octets
octets_read Other = 0
octets_read Nothing = 0
