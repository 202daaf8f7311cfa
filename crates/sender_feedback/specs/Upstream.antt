-- What is sent to a source: a compound (RFC 3550 section 6.1, RFC 4585 section 3.1; which packets it has is own).
use Rattle.std.specs.Prelude.{◌≡◌, ℕ, ℤ, pos, ◌^◌, ◌-◌, ◌/◌, unsigned_abs, Bool, if◌then◌else◌, List, [], ◌∷◌, ◌++◌}
use Rattle.std.specs.Prelude.{map}
use Rattle.std.specs.Int.{int_rem_euclid}
use Rattle.rtcp_codec.specs.declared.nack.NackWord.{NackWord}
use Rattle.rtcp_codec.specs.Packet.{Packet, Receiver, Nack, Pli}
use Rattle.rtcp_codec.specs.CanonicalName.{named}
use Rattle.rtcp_codec.specs.Nack.{IsPacking}
use Rattle.rtcp_codec.specs.Compound.{IsCompound, written}
use Rattle.rtcp_codec.specs.WriteFault.{most_octets}

-- who asks: an SSRC with its canonical name
pub record Asker : Type 0 where
  pub ssrc : ℕ
  pub cname : List ℕ

-- the sequence number of an extended number: the number modulo 2^16, below 0 too (RFC 3550 section A.1)
abbrev pub seq_of : ℤ → ℕ
seq_of ext = unsigned_abs (int_rem_euclid ext (pos (2 ^ 16)))

-- the most words of a NACK: those of the longest body, but for the two SSRCs (RFC 4585 section 6.1)
abbrev pub most_words : ℕ
most_words = most_octets / 4 - 2

-- a generic NACK of these words about the source, if there are any
abbrev pub nack_of : (asker source : ℕ) → List NackWord → List Packet
nack_of asker source [] = []
nack_of asker source (w ∷ ws) = Nack asker source (w ∷ ws) ∷ []

-- a picture loss indication about the source, if one is due
abbrev pub pli_of : (asker source : ℕ) → Bool → List Packet
pli_of asker source pli = if pli then Pli asker source ∷ [] else []

-- what is sent to a source: a receiver report without blocks, the name of who asks, then a NACK, then a PLI
abbrev pub upstream_packets : Asker → (source : ℕ) → List NackWord → Bool → List Packet
upstream_packets asker source words pli =
    Receiver asker.ssrc [] ∷ named asker.ssrc asker.cname ∷ nack_of asker.ssrc source words
    ++ pli_of asker.ssrc source pli

-- These octets are sent to a source: words that name the sequence numbers of these extended numbers, and the PLI if one
-- is due.
pub record IsUpstream (asker : Asker) (source : ℕ) (exts : List ℤ) (pli : Bool) (words : List NackWord)
    (octets : List ℕ) : Type 0 where
  pub packing : IsPacking (map seq_of exts) words
  pub octets_are : octets ≡ written (upstream_packets asker source words pli)
  pub compound : IsCompound (upstream_packets asker source words pli) octets
