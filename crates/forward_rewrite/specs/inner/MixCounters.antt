-- How a mix stream goes on from what it keeps.
use Rattle.std.specs.Prelude.{◌≡◌, ℕ, ◌+◌, ◌%◌, ◌^◌, true, false, not, is_some, if◌then◌else◌, length, None, Some}
use Rattle.media_items.specs.declared.format.Format.{Format}
use Rattle.media_items.specs.Formats.{rate_of, pt_of, tick_at}
use Rattle.rtp_codec.specs.declared.writing.Header.{Header}
use Rattle.forward_rewrite.specs.declared.tick_time.TickTime.{TickTime}
use Rattle.forward_rewrite.specs.Sending.{Numbered}
use Rattle.forward_rewrite.specs.Mixes.{Sound, MixOf, PreparedMixOf, mix_packet, payload_of}

-- the timestamp of its next tick, if that has this rate
abbrev pub next_ts : MixOf → ℕ → ℕ
next_ts s rate = if is_some s.last then (s.ts + tick_at rate) % 2 ^ 32 else s.ts

-- the header of its next packet, if that has this format
abbrev pub next_header : MixOf → Format → Header
next_header s format =
    record { marker = not s.spoke; pt = pt_of format; seq = s.next; ts = next_ts s (rate_of format); ssrc = s.ssrc }

-- a tick's rate and moment
abbrev pub time_at : ℕ → ℕ → TickTime
time_at rate moment = record { rate = rate; moment = moment }

-- the packet of a sound in its next tick
abbrev pub next_packet : MixOf → Sound → Numbered
next_packet s sound = mix_packet s.ssrc s.next (next_ts s (rate_of sound.format)) (not s.spoke) sound

-- the mix stream after a tick that sent so many octets in this format
abbrev pub after_octets : MixOf → Format → ℕ → ℕ → MixOf
after_octets s format octets moment = record {
  ssrc = s.ssrc;
  next = (s.next + 1) % 2 ^ 16;
  ts = next_ts s (rate_of format);
  spoke = true;
  packets = (s.packets + 1) % 2 ^ 32;
  octets = (s.octets + octets) % 2 ^ 32;
  last = Some (time_at (rate_of format) moment);
}

-- the mix stream after a tick with a sound
abbrev pub after_sound : MixOf → Sound → ℕ → MixOf
after_sound s sound moment = after_octets s sound.format (length (payload_of sound)) moment

-- the mix stream after a tick without one
abbrev pub after_silence : MixOf → ℕ → ℕ → MixOf
after_silence s rate moment = record {
  ssrc = s.ssrc;
  next = s.next;
  ts = next_ts s rate;
  spoke = false;
  packets = s.packets;
  octets = s.octets;
  last = if is_some s.last then Some (time_at rate moment) else None;
}

-- What is prepared is the packet that the counters give, and the stream after it.
pub record IsPreparedMix (s : MixOf) (sound : Sound) (moment : ℕ) (p : PreparedMixOf) : Type 0 where
  pub packet : p.packet ≡ next_packet s sound
  pub next : p.next ≡ after_sound s sound moment
