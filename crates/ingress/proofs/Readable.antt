-- Any octets have a reading.
use Rattle.std.proofs.Common.{◌≡◌, ◌⊎◌, ℕ, List, length, Option, None, Some, refl, inl, inr}
use Rattle.std.proofs.lemmas.Bool.{cases_lt}
use Rattle.rtp_codec.specs.declared.class.Class.{Class}
use Rattle.rtp_codec.specs.declared.class.Class.TheVariants as classes
use Rattle.rtp_codec.specs.declared.fault.RtpFault.{RtpFault}
use Rattle.rtp_codec.specs.Class.{class_of}
use Rattle.rtp_codec.specs.Fault.{first_fault}
use Rattle.rtp_codec.specs.Octets.{AreOctets}
use Rattle.rtp_codec.specs.Packet.{Packet as RtpPacket, IsPacket}
use Rattle.rtcp_codec.specs.declared.fault.RtcpFault.{RtcpFault}
use Rattle.rtcp_codec.specs.Compound.{IsCompound, HasFault}
use Rattle.rtcp_codec.specs.Packet.{Packet as RtcpPacket}
use Rattle.ingress.specs.Readings.{Reading, too_long, neither, no_packet, packet, no_compound, compound, most_octets}
use Rattle.ingress.specs.Readings.{IsOf, IsReading}

-- what the codecs say of octets
abbrev FaultlessIsPacket : Type 0
FaultlessIsPacket =
    (octets : List ℕ) → AreOctets octets → first_fault octets ≡ None → (p : RtpPacket) × IsPacket p octets

abbrev CompoundOrFault : Type 0
CompoundOrFault =
    (octets : List ℕ) → AreOctets octets
    → ((ps : List RtcpPacket) × IsCompound ps octets) ⊎ ((f : RtcpFault) × HasFault f octets)

abbrev HasReading : List ℕ → Type 0
HasReading octets = (r : Reading) × IsReading octets r

rtp : FaultlessIsPacket → (octets : List ℕ) → AreOctets octets → IsOf classes.Rtp octets → (fault : Option RtpFault)
    → first_fault octets ≡ fault → HasReading octets
rtp packets octets small of None none = let p = packets octets small none in (packet p.0, (of, p.1))
rtp packets octets small of (Some fault) found = (no_packet fault, (of, found))

rtcp : CompoundOrFault → (octets : List ℕ) → AreOctets octets → IsOf classes.Rtcp octets → HasReading octets
rtcp compounds octets small of =
    elim (compounds octets small) [
      | inl ps ↦ (compound ps.0, (of, ps.1))
      | inr fault ↦ (no_compound fault.0, (of, fault.1))
    ]

by_class : FaultlessIsPacket → CompoundOrFault → (class : Class) (octets : List ℕ) → AreOctets octets
    → IsOf class octets → HasReading octets
by_class packets compounds classes.Neither octets small of = (neither, of)
by_class packets compounds classes.Rtp octets small of = rtp packets octets small of (first_fault octets) refl
by_class packets compounds classes.Rtcp octets small of = rtcp compounds octets small of

pub has_reading : FaultlessIsPacket → CompoundOrFault → (octets : List ℕ) → AreOctets octets → HasReading octets
has_reading packets compounds octets small =
    elim (cases_lt most_octets (length octets)) [
      | inl long ↦ (too_long, long)
      | inr fits ↦
          by_class packets compounds (class_of octets) octets small (record { length_fits = fits; its_class = refl })
    ]
