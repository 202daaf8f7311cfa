-- What a member hears in a tick: the sum of all others in its room (RFC 7667 section 3.6.1; gains, the tick of 20 ms
-- and who is named are own).
use Rattle.std.specs.Prelude.{ℕ, ℤ, pos, ◌+ℤ◌, ◌+◌, Bool, not, ◌&&◌, nat_eq, nat_lt, List, [], ◌∷◌, filter, map, take}
use Rattle.std.specs.Prelude.{Option, None, Some, unwrap_or, slice_index_or}
use Rattle.std.specs.List.{range_with_len}
use Rattle.rtp_codec.specs.declared.address.Address.{Address}
use Rattle.rtp_codec.specs.Packet.{most_csrcs}
use Rattle.desk_rows.specs.declared.row.Member.{Member as MemberRow}
use Rattle.media_items.specs.declared.format.Format.{Format}
use Rattle.media_items.specs.Formats.{tick_at}
use Rattle.desk_rows.specs.Desk.{Desk}
use Rattle.topology.specs.declared.hearing.AudioSource.{AudioSource}
use Rattle.topology.specs.Looking.{room_rate}
use Rattle.topology.specs.Mixes.{audio_sources, in_room, gain_of}
use Rattle.playout.specs.Playout.{Play, sample_at, present}
use Rattle.playout.specs.Playouts.{AudioEvent, PutOf, TakeAll, Renewing, play_on}
use Rattle.playout.specs.Calls.{at_rate}
use Rattle.mix_minus.specs.Mix.{scaled, clamped}
use Rattle.forward_rewrite.specs.Mixes.{Sound, format_of}

-- ---- what came in

-- what a mixer is given: samples of a source with their clock rate and timestamp, a tick under a desk at a moment, or
-- that buffers begin anew after late or full sound from here on
pub data Given : Type 0 where
  put : (source : ℕ) (address : Address) (rate ts : ℕ) (samples : List ℤ) → Given
  tick : (desk : Desk) (moment : ℕ) → Given
  renew : Given

-- what the playouts have of it: the samples, a take from each of them at every tick, whatever the desk says, and that
-- they begin anew
abbrev pub to_playouts : Given → AudioEvent
to_playouts (put source address rate ts samples) = PutOf source address rate ts samples
to_playouts (tick desk moment) = TakeAll
to_playouts renew = Renewing

-- the playout of a source after all this
abbrev pub play_after : List Given → ℕ → Address → Option Play
play_after given source address = play_on source address (map to_playouts given)

-- ---- clock rates

-- the clock rate of the member's room, in Hz
abbrev pub member_rate : Desk → MemberRow → ℕ
member_rate d m = room_rate d m.room

-- ---- the next tick of a source

-- the sample of a playout so many places on, 0 where there is none
abbrev pub sample_in : Option Play → ℕ → ℤ
sample_in None i = pos 0
sample_in (Some play) i = unwrap_or (sample_at play.pairs (play.position + i)) (pos 0)

-- how many of so many samples are there
abbrev pub filled_in : Option Play → ℕ → ℕ
filled_in None count = 0
filled_in (Some play) count = present play.pairs play.position count

-- a source, its samples of the next tick, and how many of them are there
pub record Voice : Type 0 where
  pub source : AudioSource
  pub samples : List ℤ
  pub filled : ℕ

-- what a source sounds like at this clock rate: a playout at another rate counts as none
abbrev pub voice_at : ℕ → List Given → AudioSource → Voice
voice_at rate given s =
    let play = at_rate rate (play_after given s.ssrc s.address) in
    record {
      source = s;
      samples = map (sample_in play) (range_with_len 0 (tick_at rate));
      filled = filled_in play (tick_at rate);
    }

-- what a source sounds like in its room
abbrev pub voice_of : Desk → List Given → AudioSource → Voice
voice_of d given s = voice_at (room_rate d s.room) given s

-- the voices of a desk: all unmuted audio sources, by place of the member and then by SSRC
abbrev pub voices_of : List Given → Desk → List Voice
voices_of given d = map (voice_of d given) (audio_sources d)

-- ---- what a member hears of them

-- the voice is another member's, in the member's room
abbrev pub is_others : MemberRow → Voice → Bool
is_others m v = not (nat_eq v.source.member m.member) && in_room m.room v.source

-- the voices of the others in the member's room
abbrev pub others : MemberRow → List Voice → List Voice
others m voices = filter (is_others m) voices

-- what a voice adds at a place of the tick: floor(sample * gain / 256), by the member's gain for its source
abbrev pub part_of : Desk → MemberRow → ℕ → Voice → ℤ
part_of d m i v = scaled (slice_index_or v.samples i (pos 0)) (gain_of d m.member v.source.ssrc)

-- the sum of these
abbrev pub sum_of : List ℤ → ℤ
sum_of [] = pos 0
sum_of (n ∷ ns) = n +ℤ sum_of ns

-- the sample that the member hears at a place: the sum of all others, clamped once
abbrev pub heard_at : List Voice → Desk → MemberRow → ℕ → ℤ
heard_at voices d m i = clamped (sum_of (map (part_of d m i) (others m voices)))

-- the voice contributes: the member hears its source at all, and a sample is there
abbrev pub contributes : Desk → MemberRow → Voice → Bool
contributes d m v = nat_lt 0 (gain_of d m.member v.source.ssrc) && nat_lt 0 v.filled

-- who contributes, in order
abbrev pub contributors : List Voice → Desk → MemberRow → List ℕ
contributors voices d m = map (λ v. v.source.ssrc) (filter (contributes d m) (others m voices))

-- the sound of these samples by these contributors, if there is one; the first 15 are named, as a header has fields for
abbrev pub sound_by : Format → List ℕ → List ℤ → Option Sound
sound_by format [] samples = None
sound_by format (s ∷ ss) samples =
    Some (record { format = format; csrcs = take most_csrcs (s ∷ ss); samples = samples })

-- what a member hears of these voices in a tick: nothing where nobody contributes
abbrev pub sound_for : List Voice → Desk → MemberRow → Option Sound
sound_for voices d m =
    sound_by (format_of m.codec (member_rate d m)) (contributors voices d m)
    (map (heard_at voices d m) (range_with_len 0 (tick_at (member_rate d m))))
