-- The voices of a room as inputs of its mixes.
use Rattle.std.specs.Prelude.{◌≡◌, ℕ, ℤ, ◌≤◌, Bool, List, length, map, filter, take}
use Rattle.std.specs.List.{AllByRecursion, range_with_len}
use Rattle.rtp_codec.specs.Packet.{most_csrcs, number_octets}
use Rattle.desk_rows.specs.declared.row.Member.{Member as MemberRow}
use Rattle.desk_rows.specs.Desk.{Desk}
use Rattle.media_items.specs.Formats.{tick_at}
use Rattle.mix_minus.specs.declared.contributors.Contributors.{Contributors}
use Rattle.mix_minus.specs.declared.input.Input.{Input}
use Rattle.mix_minus.specs.Mix.{IsTotal, ReachTo, present_in}
use Rattle.mix_minus.specs.Sums.{AreSmall}
use Rattle.topology.specs.declared.hearing.AudioSource.{AudioSource}
use Rattle.topology.specs.Mixes.{in_room}
use Rattle.topology.specs.Looking.{room_rate}
use Rattle.mixer.specs.declared.rates.RoomRate.{RoomRate}
use Rattle.mixer.specs.inner.Counted.{member_of, AreBefore}
use Rattle.mixer.specs.Hearing.{Voice, member_rate, heard_at, contributors}

-- an input without where its samples lie
pub record Plain : Type 0 where
  pub ssrc : ℕ
  pub member : ℕ
  pub samples : List ℤ
  pub filled : ℕ

abbrev pub plain : Input → Plain
plain i = record { ssrc = i.ssrc; member = i.member; samples = i.samples.now; filled = i.filled }

-- a voice as an input
abbrev pub plain_voice : Voice → Plain
plain_voice v = record { ssrc = v.source.ssrc; member = v.source.member; samples = v.samples; filled = v.filled }

-- the voice is of the room
abbrev pub is_of : ℕ → Voice → Bool
is_of room v = in_room room v.source

-- the voices of a room
abbrev pub of_room : ℕ → List Voice → List Voice
of_room room voices = filter (is_of room) voices

-- Each voice has the samples of a tick at the clock rate of its room.
abbrev pub AreLong : Desk → List Voice → Type 0
AreLong d voices = AllByRecursion (λ v. length v.samples ≡ tick_at (room_rate d v.source.room)) voices

-- It is the room's clock rate.
abbrev pub IsRate : Desk → RoomRate → Type 0
IsRate d r = r.rate ≡ room_rate d r.room

-- a room: its clock rate, its sources and its inputs, in the same order, the member of each, how many are present
-- before each, their total, and who is present, in network order
pub record RoomOf : Type 0 where
  pub room : ℕ
  pub rate : ℕ
  pub sources : List AudioSource
  pub inputs : List Input
  pub members : List ℕ
  pub before : List ℕ
  pub total : List ℤ
  pub named : List ℕ

-- This is the room of this number among these voices.
pub record IsRoom (d : Desk) (voices : List Voice) (r : RoomOf) : Type 0 where
  pub rate : r.rate ≡ room_rate d r.room
  pub sources : r.sources ≡ map (λ v. v.source) (of_room r.room voices)
  pub inputs : map plain r.inputs ≡ map plain_voice (of_room r.room voices)
  pub reach : ReachTo (tick_at r.rate) r.inputs
  pub few : length r.inputs ≤ 64
  pub members : r.members ≡ map member_of r.inputs
  pub before : AreBefore r.before r.inputs
  pub total : IsTotal r.inputs r.total
  pub long : length r.total ≡ tick_at r.rate
  pub small : AreSmall 16777216 r.total
  pub named : r.named ≡ number_octets (present_in r.inputs)

-- This is what the member hears of these voices.
pub record IsHeard (d : Desk) (voices : List Voice) (m : MemberRow) (out : List ℤ) (who : Contributors) : Type 0 where
  pub samples : out ≡ map (heard_at voices d m) (range_with_len 0 (tick_at (member_rate d m)))
  pub count : who.count ≤ most_csrcs
  pub few : who.count ≤ length who.ssrcs
  pub named : take who.count who.ssrcs ≡ take most_csrcs (contributors voices d m)
