-- What a datagram is, where RTP and RTCP share a port (RFC 5761 section 4).
use Rattle.std.specs.Prelude.{ℕ, ◌/◌, ◌==◌, nat_le, Bool, ◌&&◌, if◌then◌else◌, List, [], ◌∷◌}
use Rattle.rtp_codec.specs.declared.class.Class.{Class}
use Rattle.rtp_codec.specs.declared.class.Class.TheVariants.{Rtp, Rtcp, Neither}

-- the second octet of an RTCP packet is its type, 192 to 223; no RTP payload type is used that gives such an octet
abbrev pub is_rtcp_type : ℕ → Bool
is_rtcp_type octet = nat_le 192 octet && nat_le octet 223

-- neither, unless two octets are there and the version in the top two bits of the first is 2
abbrev pub class_of : List ℕ → Class
class_of [] = Neither
class_of (first ∷ []) = Neither
class_of (first ∷ second ∷ rest) = if first / 64 == 2 then (if is_rtcp_type second then Rtcp else Rtp) else Neither
