-- Canonical names (RFC 3550 section 6.5.1).
use Rattle.std.specs.Prelude.{ℕ, ◌≤◌, List, [], ◌∷◌, length}
use Rattle.rtcp_codec.specs.Packet.{Packet, Sdes}
use Rattle.rtcp_codec.specs.Description.{most_text}

-- a canonical name has 1 to 255 octets
abbrev pub IsCname : List ℕ → Type 0
IsCname cname = (1 ≤ length cname) × (length cname ≤ most_text)

-- the type of a canonical name among the items of a source description
abbrev pub cname_type : ℕ
cname_type = 1

-- a source description that gives the SSRC its canonical name, and says nothing else
abbrev pub named : (ssrc : ℕ) → (cname : List ℕ) → Packet
named ssrc cname = Sdes (record { ssrc = ssrc; items = record { kind = cname_type; text = cname } ∷ [] } ∷ [])
