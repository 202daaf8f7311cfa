-- A stream so far: what it keeps is a function of all that it has sent.
use Rattle.std.specs.Prelude.{◌≡◌, ℕ, ◌+◌, ◌%◌, ◌^◌, List, [], ◌∷◌, ◌++◌, length, map, sum_by, Option, Some, option_map}
use Rattle.retransmit.specs.SentPacket.{SentPacket}
use Rattle.retransmit.specs.Window.{window_size, latest}
use Rattle.forward_rewrite.specs.declared.counts.Counts.{Counts}
use Rattle.forward_rewrite.specs.declared.last_sent.LastSent.{LastSent}
use Rattle.media_items.specs.Frame.{SourceFrame}
use Rattle.forward_rewrite.specs.Sending.{Sending, Numbered, out_of}
use Rattle.forward_rewrite.specs.Timestamps.{Stamped, difference, last_of, stamped}
use Rattle.forward_rewrite.specs.RoutedList.{Part, parts, packets_of}
use Rattle.media_items.specs.Rates.{video_rate}

-- a stream: its SSRC, the timestamp that it begins with, the number of its next packet, how many packets and octets of
-- payload it has sent, what is kept of its last frame, and the packets that can be sent again
pub record StreamOf : Type 0 where
  pub ssrc : ℕ
  pub first_ts : ℕ
  pub next : ℕ
  pub packets : ℕ
  pub octets : ℕ
  pub last : Option LastSent
  pub window : List SentPacket

-- a frame that is ready: the packets and the number of the first, how many octets of payload they have, and what the
-- stream keeps once they are sent
pub record PreparedOf : Type 0 where
  pub first : ℕ
  pub next : ℕ
  pub octets : ℕ
  pub last : LastSent
  pub packets : List SentPacket

-- what is kept of a frame that was sent under this timestamp
abbrev pub sent : SourceFrame → ℕ → LastSent
sent f ts = record {
  source = f.source;
  address = f.address;
  epoch = f.epoch;
  moment = f.moment;
  ts = ts;
  offset = difference f.frame.ts ts;
}

-- how many octets of payload these packets have
abbrev pub payload_octets : List Part → ℕ
payload_octets parts = sum_by (λ part. length part.packet.payload) parts

-- the stream after these frames
abbrev pub state_of : ℕ → ℕ → ℕ → List Sending → StreamOf
state_of ssrc first_seq first_ts sendings = record {
  ssrc = ssrc;
  first_ts = first_ts;
  next = (first_seq + length (parts (stamped first_ts sendings))) % 2 ^ 16;
  packets = length (parts (stamped first_ts sendings)) % 2 ^ 32;
  octets = payload_octets (parts (stamped first_ts sendings)) % 2 ^ 32;
  last = option_map (λ s. sent s.sending.frame s.ts) (last_of (stamped first_ts sendings));
  window = latest window_size (packets_of ssrc first_seq first_ts sendings);
}

-- The stream has sent these frames, the first number and timestamp being these.
abbrev pub HasSent : StreamOf → ℕ → ℕ → List Sending → Type 0
HasSent s first_seq first_ts sendings = s ≡ state_of s.ssrc first_seq first_ts sendings

-- Whatever the old stream has sent, these packets are what is sent of one more frame, and the new stream has sent it
-- too.
abbrev pub SendsNext : StreamOf → StreamOf → Sending → List SentPacket → Type 0
SendsNext old new next packets =
    (first_seq first_ts : ℕ) (before : List Sending) → HasSent old first_seq first_ts before →
    (packets_of old.ssrc first_seq first_ts (before ++ next ∷ [])
    ≡ packets_of old.ssrc first_seq first_ts before ++ packets)
    × HasSent new first_seq first_ts (before ++ next ∷ [])

-- Whatever the old stream has sent, this goes out of one more frame, and the new stream has sent it too.
abbrev pub GivesNext : StreamOf → StreamOf → Sending → List Numbered → Type 0
GivesNext old new next out =
    (first_seq first_ts : ℕ) (before : List Sending) → HasSent old first_seq first_ts before →
    (map out_of (packets_of old.ssrc first_seq first_ts (before ++ next ∷ []))
    ≡ map out_of (packets_of old.ssrc first_seq first_ts before) ++ out)
    × HasSent new first_seq first_ts (before ++ next ∷ [])

-- the stream after what was prepared is committed
abbrev pub committed : StreamOf → PreparedOf → StreamOf
committed s p = record {
  ssrc = s.ssrc;
  first_ts = s.first_ts;
  next = p.next;
  packets = (s.packets + length p.packets) % 2 ^ 32;
  octets = (s.octets + p.octets) % 2 ^ 32;
  last = Some p.last;
  window = latest window_size (s.window ++ p.packets);
}

-- what a sender report tells of a stream after these frames, once it has begun: how many packets and octets of payload,
-- each counted once, and of the last frame its timestamp and its moment
abbrev pub counts_of : ℕ → ℕ → List Sending → Option Counts
counts_of ssrc first_ts sendings = option_map (λ (last : Stamped). record {
  ssrc = ssrc;
  packets = length (parts (stamped first_ts sendings)) % 2 ^ 32;
  octets = payload_octets (parts (stamped first_ts sendings)) % 2 ^ 32;
  ts = last.ts;
  moment = last.sending.frame.moment;
  rate = video_rate;
}) (last_of (stamped first_ts sendings))
