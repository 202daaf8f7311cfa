-- What receivers report of the way of a stream to them (RFC 3550 section 6.4.1).
use Rattle.std.specs.Prelude.{◌≡◌, ℕ, ◌+◌, ◌-◌, ◌*◌, ◌/◌, ◌%◌, ◌^◌, nat_eq, nat_le, Bool, false, List, []}
use Rattle.std.specs.Prelude.{if◌then◌else◌, max}
use Rattle.std.specs.Prelude.{◌∷◌, codes, Option, None, Some}
use Rattle.std.specs.List.{FoldsTo}
use Rattle.desk_rows.specs.Desk.{Desk}
use Rattle.desk_rows.specs.Getters.{member_at, slot_at}
use Rattle.rtp_codec.specs.Address.{same_address}
use Rattle.topology.specs.Looking.{member_from, rate_of}
use Rattle.desk_rows.specs.declared.row.Member.{Member}
use Rattle.desk_rows.specs.declared.row.Slot.{Slot}
use Rattle.rtp_codec.specs.declared.address.Address.{Address}
use Rattle.rtcp_codec.specs.declared.report.ReportBlock.{ReportBlock}
use Rattle.rtcp_codec.specs.Packet.{Packet, Sender as SenderReport, Receiver, Sdes, Bye, App, Nack, Pli, Other}
use Rattle.rtcp_codec.specs.Compound.{IsCompound}
use Rattle.receiver_feedback.specs.Times.{ntp_of}
use Rattle.ingress.specs.declared.outcome.Outcome.{Outcome}
use Rattle.ingress.specs.declared.outcome_class.Disposition.{Disposition}
use Rattle.ingress.specs.declared.outcome_class.Disposition.TheVariants.{Dropped, Probation, OnTime, Late, Duplicate}
use Rattle.ingress.specs.declared.outcome_class.Disposition.TheVariants.{Restarted, Compound}
use Rattle.ingress.specs.Outcomes.{disposition_of}
use Rattle.bridge_stats.specs.declared.sender.Sender.{Sender}
use Rattle.bridge_stats.specs.declared.path.PathReport.{PathReport}
use Rattle.bridge_stats.specs.Received.{video_rate}
use Rattle.bridge_stats.specs.Tables.{TableOf, IsKept}
use Rattle.bridge_stats.specs.Text.{LinePart, words, number, no_word}

-- of how many streams at their receivers' addresses the last block is kept
abbrev pub most_paths : ℕ
most_paths = 5120

-- the middle 32 bits of the NTP timestamp of a moment: 65536ths of a second
abbrev pub middle_of : ℕ → ℕ
middle_of moment = ntp_of moment / 2 ^ 16 % 2 ^ 32

-- the time from one moment to another, by their middle 32 bits, which begin anew after 18 hours
abbrev pub time_from : (first last : ℕ) → ℕ
time_from first last = (last + 2 ^ 32 - first) % 2 ^ 32

-- the longest round trip that is told: a minute, in 65536ths of a second
abbrev pub longest_trip : ℕ
longest_trip = 60 * 2 ^ 16

-- The round trip of this difference. One that is below 0 by a minute at most is 0: the receiver's clock runs fast.
abbrev pub trip_of : ℕ → Option ℕ
trip_of difference =
    if nat_le difference longest_trip then Some difference
    else (if nat_le (2 ^ 32 - longest_trip) difference then Some 0 else None)

-- The round trip by a block that came at a moment: the time since the sender report that it names (LSR), less the time
-- for which the receiver had that (DLSR). None if it had no report.
abbrev pub round_trip : ℕ → ReportBlock → Option ℕ
round_trip moment block =
    if nat_eq block.lsr 0 then None
    else trip_of (time_from block.dlsr (time_from block.lsr (middle_of moment)))

-- what a block that came at a moment reports of the way of its stream, which has this clock rate in Hz
abbrev pub path_of : (moment rate : ℕ) → ReportBlock → PathReport
path_of moment rate block = record {
  fraction = block.fraction;
  lost = block.lost;
  rate = rate;
  jitter = block.jitter;
  round_trip = round_trip moment block;
}

-- a stream at the address of its receiver
abbrev pub stream_at : Address → (ssrc : ℕ) → Sender
stream_at from ssrc = record { ip = from.ip; port = from.port; ssrc = ssrc }

-- the member is at this address
abbrev pub is_at : Option Member → Address → Bool
is_at None from = false
is_at (Some member) from = same_address member.address from

-- the slot's member is at this address
abbrev pub goes_to : Desk → Option Slot → Address → Bool
goes_to desk None from = false
goes_to desk (Some slot) from = is_at (member_at desk slot.member) from

-- the desk sends the stream of this slot to this address
abbrev pub is_received : Desk → Address → (ssrc : ℕ) → Bool
is_received desk from ssrc = goes_to desk (slot_at desk ssrc) from

-- the member's mix has this SSRC
abbrev pub is_mix : Option Member → (ssrc : ℕ) → Bool
is_mix None ssrc = false
is_mix (Some member) ssrc = nat_eq member.out_audio ssrc

-- the clock rate of the stream of this SSRC, if it is the mix of a member that was found
abbrev pub mix_rate : Desk → Option ℕ → (ssrc : ℕ) → Option ℕ
mix_rate desk None ssrc = None
mix_rate desk (Some member) ssrc = if is_mix (member_at desk member) ssrc then rate_of desk member else None

-- the clock rate in Hz of the stream of this SSRC that the desk sends to an address, if it sends one there: that of
-- video for a slot's stream, and for a mix that of its member's room
abbrev pub rate_to : Desk → Address → (ssrc : ℕ) → Option ℕ
rate_to desk from ssrc =
    if is_received desk from ssrc then Some video_rate else mix_rate desk (member_from desk from) ssrc

-- A block of a stream of this clock rate was noted that came from an address at a moment, and none where no such stream
-- is sent there.
abbrev pub IsBlockKept :
    Option ℕ → Address → (moment : ℕ) → TableOf PathReport → ReportBlock → TableOf PathReport → Type 0
IsBlockKept None from moment old block new = new ≡ old
IsBlockKept (Some rate) from moment old block new =
    IsKept most_paths (stream_at from block.ssrc) (path_of moment rate block) old new

-- A block was noted that came from an address at a moment, if the desk sends its stream there, and otherwise nothing.
abbrev pub IsBlockNoted : Desk → Address → ℕ → TableOf PathReport → ReportBlock → TableOf PathReport → Type 0
IsBlockNoted desk from moment old block new = IsBlockKept (rate_to desk from block.ssrc) from moment old block new

-- the report blocks of a packet
abbrev pub blocks_of : Packet → List ReportBlock
blocks_of (SenderReport ssrc ntp ts packets octets blocks) = blocks
blocks_of (Receiver ssrc blocks) = blocks
blocks_of (Sdes chunks) = []
blocks_of (Bye ssrcs reason) = []
blocks_of (App subtype ssrc name content) = []
blocks_of (Nack sender media lost) = []
blocks_of (Pli sender media) = []
blocks_of (Other pt count body) = []

-- The blocks of a packet were noted, one after another.
abbrev pub IsPacketNoted : Desk → Address → ℕ → TableOf PathReport → Packet → TableOf PathReport → Type 0
IsPacketNoted desk from moment old packet new = FoldsTo (IsBlockNoted desk from moment) old (blocks_of packet) new

-- All blocks of a compound that came from an address at a moment were noted.
abbrev pub HasReported : Desk → Address → ℕ → List ℕ → TableOf PathReport → TableOf PathReport → Type 0
HasReported desk from moment octets old new =
    (packets : List Packet) × IsCompound packets octets × FoldsTo (IsPacketNoted desk from moment) old packets new

-- The blocks of a datagram with this disposition were noted, if it is a compound that was read.
abbrev pub IsNotedIf : Disposition → Desk → Address → ℕ → List ℕ → TableOf PathReport → TableOf PathReport → Type 0
IsNotedIf Dropped desk from moment octets old new = new ≡ old
IsNotedIf Probation desk from moment octets old new = new ≡ old
IsNotedIf (OnTime ext) desk from moment octets old new = new ≡ old
IsNotedIf (Late ext) desk from moment octets old new = new ≡ old
IsNotedIf (Duplicate ext) desk from moment octets old new = new ≡ old
IsNotedIf (Restarted ext) desk from moment octets old new = new ≡ old
IsNotedIf (Compound packets) desk from moment octets old new = HasReported desk from moment octets old new

-- The blocks of a datagram with this outcome were noted, if it is a compound from a member.
abbrev pub AreReported : Desk → Outcome → Address → ℕ → List ℕ → TableOf PathReport → TableOf PathReport → Type 0
AreReported desk outcome from moment octets old new = IsNotedIf (disposition_of outcome) desk from moment octets old new

-- ---- the parts of a stream's line

-- the jitter in whole milliseconds, at the stream's clock rate
abbrev pub path_jitter_part : Option PathReport → LinePart
path_jitter_part None = no_word
path_jitter_part (Some path) = number (path.jitter * 1000 / max path.rate 1)

-- a round trip in whole milliseconds
abbrev pub trip_part : Option ℕ → LinePart
trip_part None = no_word
trip_part (Some trip) = number (trip * 1000 / 2 ^ 16)

abbrev pub round_trip_part : Option PathReport → LinePart
round_trip_part None = no_word
round_trip_part (Some path) = trip_part path.round_trip

-- the jitter and the round trip, each behind its word
abbrev pub path_parts : Option PathReport → List LinePart
path_parts path =
    words (codes "jitter") ∷ path_jitter_part path ∷ words (codes "round-trip") ∷ round_trip_part path ∷ []
