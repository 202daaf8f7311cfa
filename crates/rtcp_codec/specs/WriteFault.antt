-- What can be written as a compound, and why other packets can't.
use Rattle.std.specs.Prelude.{◌≡◌, ℕ, ◌*◌, ◌≤◌, List, [], ◌∷◌, length, ◌⊎◌}
use Rattle.std.specs.List.{AllByRecursion}
use Rattle.rtcp_codec.specs.declared.fault.WriteFault.{WriteFault}
use Rattle.rtcp_codec.specs.declared.fault.WriteFault.TheVariants as faults
use Rattle.rtcp_codec.specs.Compound.{BeginsWithReport}
use Rattle.rtcp_codec.specs.Description.{filled}
use Rattle.rtcp_codec.specs.Packet.{Packet, fields, CountFits, PartsFit, MeaningFits}

-- the most octets of a body: 16 bits count a packet's words but for the header's one (RFC 3550 section 6.4.1)
abbrev pub most_octets : ℕ
most_octets = 4 * 65535

-- at most 65536 words, the common header's one included
pub record LengthFits (p : Packet) : Type 0 where
  pub parts : PartsFit p
  pub words : length (filled (fields p)) ≤ most_octets

-- a packet that can be written
pub record IsWritable (p : Packet) : Type 0 where
  pub counted : CountFits p
  pub lengths : LengthFits p
  pub meaning : MeaningFits p

-- packets that can be written as a compound
pub record AreWritable (ps : List Packet) : Type 0 where
  pub report : BeginsWithReport ps
  pub each : AllByRecursion IsWritable ps

-- the first fault of a packet: of its count, of a length, of a meaning
abbrev pub IsFirstFault : WriteFault → Packet → Type 0
IsFirstFault faults.Count p = ¬ CountFits p
IsFirstFault faults.TooLong p = CountFits p × (¬ LengthFits p)
IsFirstFault faults.Kind p = CountFits p × LengthFits p × (¬ MeaningFits p)
IsFirstFault faults.First p = ⊥
IsFirstFault faults.OutOfMemory p = ⊥

-- the first packet that has a fault has this as its first
abbrev pub HasPacketFault : WriteFault → List Packet → Type 0
HasPacketFault fault [] = ⊥
HasPacketFault fault (p ∷ ps) = IsFirstFault fault p ⊎ (IsWritable p × HasPacketFault fault ps)

-- why packets can't be written as a compound: they don't begin with a report, or a packet has a fault
abbrev pub HasWriteFault : WriteFault → List Packet → Type 0
HasWriteFault fault ps =
    ((fault ≡ faults.First) × (¬ BeginsWithReport ps)) ⊎ (BeginsWithReport ps × HasPacketFault fault ps)
