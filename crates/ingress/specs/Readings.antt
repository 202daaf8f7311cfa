-- What the octets of a datagram are (RFC 3550 sections 5.1 and 6.1, RFC 5761 section 4).
use Rattle.std.specs.Prelude.{◌≡◌, ℕ, ◌<◌, ◌≤◌, List, length, Some}
use Rattle.rtp_codec.specs.declared.class.Class.{Class}
use Rattle.rtp_codec.specs.declared.class.Class.TheVariants as classes
use Rattle.rtp_codec.specs.declared.fault.RtpFault.{RtpFault}
use Rattle.rtp_codec.specs.Class.{class_of}
use Rattle.rtp_codec.specs.Fault.{first_fault}
use Rattle.rtp_codec.specs.Packet.{Packet as RtpPacket, IsPacket}
use Rattle.rtcp_codec.specs.declared.fault.RtcpFault.{RtcpFault}
use Rattle.rtcp_codec.specs.Compound.{IsCompound, HasFault}
use Rattle.rtcp_codec.specs.Packet.{Packet as RtcpPacket}

-- the most octets of a datagram that is taken in (own)
abbrev pub most_octets : ℕ
most_octets = 8192

-- a datagram that is too long, one that is neither RTP nor RTCP, no packet for this reason or a packet, no compound for
-- this reason or a compound
pub data Reading : Type 0 where
  too_long : Reading
  neither : Reading
  no_packet : (fault : RtpFault) → Reading
  packet : (packet : RtpPacket) → Reading
  no_compound : (fault : RtcpFault) → Reading
  compound : (packets : List RtcpPacket) → Reading

-- the octets, which aren't too many, are of this class
pub record IsOf (class : Class) (octets : List ℕ) : Type 0 where
  pub length_fits : length octets ≤ most_octets
  pub its_class : class_of octets ≡ class

-- The octets are this.
abbrev pub IsReading : List ℕ → Reading → Type 0
IsReading octets too_long = most_octets < length octets
IsReading octets neither = IsOf classes.Neither octets
IsReading octets (no_packet fault) = IsOf classes.Rtp octets × (first_fault octets ≡ Some fault)
IsReading octets (packet p) = IsOf classes.Rtp octets × IsPacket p octets
IsReading octets (no_compound fault) = IsOf classes.Rtcp octets × HasFault fault octets
IsReading octets (compound packets) = IsOf classes.Rtcp octets × IsCompound packets octets
