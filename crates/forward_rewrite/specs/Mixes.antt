-- What an outgoing mix stream sends over its ticks: a packet for each tick that sounds, numbered in a row, with a time
-- that goes on by the samples of each tick (RFC 7667 section 3.6.1; the tick of 20 ms is own).
use Rattle.std.specs.Prelude.{◌≡◌, ℕ, ℤ, ◌+◌, ◌%◌, ◌^◌, Bool, true, false, not, is_some, nat_eq, if◌then◌else◌, List}
use Rattle.std.specs.Prelude.{[], ◌∷◌, ◌++◌, length, filter_map, sum_by, Option, None, Some, option_map}
use Rattle.std.specs.List.{last_or}
use Rattle.rtp_codec.specs.declared.writing.Header.{Header}
use Rattle.rtp_codec.specs.Packet.{written}
use Rattle.desk_rows.specs.declared.row.Codec.{Codec}
use Rattle.desk_rows.specs.declared.row.Codec.TheVariants as codecs
use Rattle.media_items.specs.declared.format.Format.{Format}
use Rattle.media_items.specs.declared.format.Format.TheVariants.{Pcmu, L16At8000, L16At44100}
use Rattle.media_items.specs.Formats.{rate_of, pt_of, tick_at, encoded}
use Rattle.forward_rewrite.specs.declared.counts.Counts.{Counts}
use Rattle.forward_rewrite.specs.declared.tick_time.TickTime.{TickTime}
use Rattle.forward_rewrite.specs.Sending.{Numbered}

-- the format of a codec at a clock rate: PCMU has the one rate of 8000 Hz
abbrev pub format_of : Codec → ℕ → Format
format_of codecs.Pcmu rate = Pcmu
format_of codecs.L16 rate = if nat_eq rate (rate_of L16At44100) then L16At44100 else L16At8000

-- what a mix sounds like in one tick: its format, the contributing sources, and the samples
pub record Sound : Type 0 where
  pub format : Format
  pub csrcs : List ℕ
  pub samples : List ℤ

-- a tick of a mix stream: a sound, or silence, its clock rate in Hz, and its moment in nanoseconds
pub record MixTick : Type 0 where
  pub sound : Option Sound
  pub rate : ℕ
  pub moment : ℕ

-- the sound of these samples
abbrev pub sound_of : Format → List ℕ → List ℤ → Sound
sound_of format csrcs samples = record { format = format; csrcs = csrcs; samples = samples }

-- a tick with this sound, at the rate of its format
abbrev pub sounding : Sound → ℕ → MixTick
sounding sound moment = record { sound = Some sound; rate = rate_of sound.format; moment = moment }

-- a tick without one
abbrev pub silent : ℕ → ℕ → MixTick
silent rate moment = record { sound = None; rate = rate; moment = moment }

-- the payload that a sound is sent as
abbrev pub payload_of : Sound → List ℕ
payload_of sound = encoded sound.format sound.samples

-- a packet of a mix, as it goes out under this number and timestamp
abbrev pub mix_packet : ℕ → ℕ → ℕ → Bool → Sound → Numbered
mix_packet ssrc number ts marker sound =
    let header : Header =
    record { marker = marker; pt = pt_of sound.format; seq = number % 2 ^ 16; ts = ts % 2 ^ 32; ssrc = ssrc } in
    record { number = number % 2 ^ 16; bytes = written header sound.csrcs (payload_of sound) }

-- what a tick sends under this number and timestamp: one packet if it sounds
abbrev pub packets_in : ℕ → ℕ → ℕ → Bool → Option Sound → List Numbered
packets_in ssrc number ts marker None = []
packets_in ssrc number ts marker (Some sound) = mix_packet ssrc number ts marker sound ∷ []

-- the packets of ticks behind another one, from the number of the next packet, the timestamp of the tick before, and
-- whether that one sent a packet:
-- each tick takes the timestamp on by its own samples, and a packet has the marker where the tick before sent none
abbrev pub mixed : ℕ → ℕ → ℕ → Bool → List MixTick → List Numbered
mixed ssrc number ts spoke [] = []
mixed ssrc number ts spoke (tick ∷ ticks) =
    let here = ts + tick_at tick.rate in
    let sent = packets_in ssrc number here (not spoke) tick.sound in
    sent ++ mixed ssrc (number + length sent) here (is_some tick.sound) ticks

-- the packets of ticks of which the first has the first number and timestamp
abbrev pub mixed_from : ℕ → ℕ → ℕ → List MixTick → List Numbered
mixed_from ssrc first_seq first_ts [] = []
mixed_from ssrc first_seq first_ts (tick ∷ ticks) =
    let sent = packets_in ssrc first_seq first_ts true tick.sound in
    sent ++ mixed ssrc (first_seq + length sent) first_ts (is_some tick.sound) ticks

-- the ticks from the first one on that sounds
abbrev pub begun : List MixTick → List MixTick
begun [] = []
begun (tick ∷ ticks) = if is_some tick.sound then tick ∷ ticks else begun ticks

-- all that a mix stream sends over its ticks: it begins with the first sound
abbrev pub mix_list : ℕ → ℕ → ℕ → List MixTick → List Numbered
mix_list ssrc first_seq first_ts ticks = mixed_from ssrc first_seq first_ts (begun ticks)

-- how far these ticks take the timestamp: each by its own samples, 160 or 882
abbrev pub units_of : List MixTick → ℕ
units_of ticks = sum_by (λ tick. tick_at tick.rate) ticks

-- how far the timestamp of the last tick is from that of the first
abbrev pub advance : List MixTick → ℕ
advance [] = 0
advance (tick ∷ ticks) = units_of ticks

-- the sounds among ticks
abbrev pub sounds : List MixTick → List Sound
sounds ticks = filter_map (λ tick. tick.sound) ticks

-- what a sender report tells of a mix stream after these ticks, once it has begun: how many packets and octets of
-- payload, and of the last tick its timestamp, its moment and its clock rate
abbrev pub mix_counts : ℕ → ℕ → ℕ → List MixTick → Option Counts
mix_counts ssrc first_seq first_ts ticks = option_map (λ (last : MixTick). record {
  ssrc = ssrc;
  packets = length (mix_list ssrc first_seq first_ts ticks) % 2 ^ 32;
  octets = sum_by (λ sound. length (payload_of sound)) (sounds ticks) % 2 ^ 32;
  ts = (first_ts + advance (begun ticks)) % 2 ^ 32;
  moment = last.moment;
  rate = last.rate;
}) (last_or None (begun ticks))

-- a mix stream: its SSRC, the number of its next packet, the timestamp of its last tick (of the first one before it has
-- begun), whether the last tick sounded, how many packets and octets of payload it has sent, and the clock rate and the
-- moment of the last tick since it began
pub record MixOf : Type 0 where
  pub ssrc : ℕ
  pub next : ℕ
  pub ts : ℕ
  pub spoke : Bool
  pub packets : ℕ
  pub octets : ℕ
  pub last : Option TickTime

-- whether a tick, where there is one, sounds
abbrev pub sounded : Option MixTick → Bool
sounded None = false
sounded (Some tick) = is_some tick.sound

-- the clock rate and the moment of a tick
abbrev pub time_of : MixTick → TickTime
time_of tick = record { rate = tick.rate; moment = tick.moment }

-- the mix stream after these ticks
abbrev pub mix_state : ℕ → ℕ → ℕ → List MixTick → MixOf
mix_state ssrc first_seq first_ts ticks = record {
  ssrc = ssrc;
  next = (first_seq + length (mix_list ssrc first_seq first_ts ticks)) % 2 ^ 16;
  ts = (first_ts + advance (begun ticks)) % 2 ^ 32;
  spoke = sounded (last_or None (begun ticks));
  packets = length (mix_list ssrc first_seq first_ts ticks) % 2 ^ 32;
  octets = sum_by (λ sound. length (payload_of sound)) (sounds ticks) % 2 ^ 32;
  last = option_map time_of (last_or None (begun ticks));
}

-- The mix stream has had these ticks, the first number and timestamp being these.
abbrev pub HasMixed : MixOf → ℕ → ℕ → List MixTick → Type 0
HasMixed s first_seq first_ts ticks = s ≡ mix_state s.ssrc first_seq first_ts ticks

-- Whatever ticks the old mix stream has had, this is what goes out in one more, and the new one has had it too.
abbrev pub GivesTick : MixOf → MixOf → MixTick → List Numbered → Type 0
GivesTick old new tick out =
    (first_seq first_ts : ℕ) (before : List MixTick) → HasMixed old first_seq first_ts before →
    (mix_list old.ssrc first_seq first_ts (before ++ tick ∷ []) ≡ mix_list old.ssrc first_seq first_ts before ++ out)
    × HasMixed new first_seq first_ts (before ++ tick ∷ [])

-- a packet that is ready, and the mix stream once it is sent
pub record PreparedMixOf : Type 0 where
  pub next : MixOf
  pub packet : Numbered
