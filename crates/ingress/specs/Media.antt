-- What a media packet does for its source (audio: RFC 3551 sections 4.5.11 and 4.5.14; its limits are own).
use Rattle.std.specs.Prelude.{ℕ, ℤ, Bool, true, false, ◌||◌, nat_eq, if◌then◌else◌, List, [], ◌∷◌, ◌++◌, length, drop}
use Rattle.std.specs.Prelude.{map, Option, None, Some, is_some}
use Rattle.rtp_codec.specs.declared.address.Address.{Address}
use Rattle.rtp_codec.specs.Packet.{Packet}
use Rattle.source_valid.specs.declared.verdict.Verdict.{Verdict}
use Rattle.source_valid.specs.declared.verdict.Verdict.TheVariants.{Probation, Accepted, Jump, Restarted}
use Rattle.source_valid.specs.Histories.{accepted}
use Rattle.frame_gate.specs.declared.packet.Place.{Place}
use Rattle.frame_gate.specs.declared.packet.Place.TheVariants.{Taken, Late, Duplicate}
use Rattle.frame_gate.specs.Packets.{GatePacket, NumberedPacket, numbered}
use Rattle.frame_gate.specs.Frame.{WholeFrame}
use Rattle.frame_gate.specs.Epochs.{Epoch, epoch_after, frames_of, place_of, nacks_of, gives_up}
use Rattle.frame_gate.specs.Watched.{came}
use Rattle.ingress.specs.declared.outcome.Outcome.{Outcome}
use Rattle.ingress.specs.declared.outcome.Outcome.TheVariants as outcomes
use Rattle.media_items.specs.Inputs.{Input}
use Rattle.media_items.specs.Formats.{rate_of, format_of_packet, holds_whole, samples_of_packet}
use Rattle.media_items.specs.declared.format.Format.{Format}
use Rattle.ingress.specs.Stories.{Story, RtpArrival, units_of, gate_epoch}
use Rattle.ingress.specs.Sources.{Origin}

-- a media packet: from where and at which moment it came, and what stands in it
pub record MediaPacket : Type 0 where
  pub from : Address
  pub moment : ℕ
  pub packet : Packet

-- the source that a packet comes from: its address and its SSRC
abbrev pub origin_of : MediaPacket → Origin
origin_of c = record { address = c.from; ssrc = c.packet.header.ssrc }

-- as a source of this clock rate judges it
abbrev pub arrival_of : ℕ → MediaPacket → RtpArrival
arrival_of rate c =
    record { rate = rate; seq = c.packet.header.seq; ts = c.packet.header.ts; units = units_of rate c.moment }

-- this format, where a payload of so many octets has whole samples, and no more than it may
abbrev pub holding : ℕ → Option Format → Option Format
holding octets None = None
holding octets (Some format) = if holds_whole format octets then Some format else None

-- the format of a payload of so many octets, where it is audio in a room of this clock rate
abbrev pub audio_format : (rate pt octets : ℕ) → Option Format
audio_format rate pt octets = holding octets (format_of_packet pt rate)

-- what a packet does for its source: the outcome and the source's story, the items that it makes, the numbers that are
-- newly missing, and whether a picture is lost
pub record Course : Type 0 where
  pub outcome : Outcome
  pub story : Story
  pub items : List Input
  pub nacks : List ℤ
  pub pli : Bool

-- the outcome of a verdict
abbrev pub told : Verdict → Outcome
told Probation = outcomes.Probation
told (Accepted ext) = outcomes.Accepted ext
told Jump = outcomes.Jump
told (Restarted ext) = outcomes.Restarted ext

-- the verdict, and these items
abbrev pub verdict_with : Verdict → List Input → Story → Course
verdict_with verdict items story =
    record { outcome = told verdict; story = story; items = items; nacks = []; pli = false }

-- the verdict, and no more
abbrev pub verdict_only : Verdict → Story → Course
verdict_only verdict story = verdict_with verdict [] story

-- the packet as the source's gate takes it
abbrev pub gate_packet : Packet → GatePacket
gate_packet p = record { marker = p.header.marker; pt = p.header.pt; ts = p.header.ts; payload = p.payload }

-- the frames that a packet newly closes
abbrev pub newly : Epoch → NumberedPacket → List WholeFrame
newly e p = drop (length (frames_of e)) (frames_of (epoch_after e p))

-- an accepted packet, where the gate told its place
abbrev pub placed : ℤ → Place → Outcome
placed ext Taken = outcomes.Accepted ext
placed ext Late = outcomes.Late ext
placed ext Duplicate = outcomes.Duplicate ext

-- a frame of a source's epoch as an item, which came at this moment
abbrev pub frame_item : Origin → (moment epoch : ℕ) → WholeFrame → Input
frame_item o moment epoch f =
    Input.frame (record { source = o.ssrc; address = o.address; epoch = epoch; moment = moment; frame = f })

-- whole frames as items, in order
abbrev pub frames_from : Origin → (moment epoch : ℕ) → List WholeFrame → List Input
frames_from o moment epoch frames = map (frame_item o moment epoch) frames

-- the packet comes to the gate; a restart loses the picture, and so does a gate that gives up
abbrev pub gate_course : MediaPacket → NumberedPacket → (Place → Outcome) → Bool → Story → Course
gate_course c p outcome anew story = record {
  outcome = outcome (place_of (gate_epoch story) p);
  story = record {
    rate = story.rate;
    given = story.given;
    epoch = story.epoch;
    gate_events = story.gate_events ++ came p ∷ [];
  };
  items = frames_from (origin_of c) c.moment story.epoch (newly (gate_epoch story) p);
  nacks = nacks_of (gate_epoch story) p;
  pli = anew || gives_up (gate_epoch story) p;
}

-- what a video packet does, by its verdict: nothing but the verdict on probation and at a jump, else what its gate
-- gives
abbrev pub video_course : MediaPacket → Verdict → Story → Course
video_course c Probation story = verdict_only Probation story
video_course c (Accepted ext) story = gate_course c (numbered ext (gate_packet c.packet)) (placed ext) false story
video_course c Jump story = verdict_only Jump story
video_course c (Restarted ext) story =
    gate_course c (numbered ext (gate_packet c.packet)) (λ place. outcomes.Restarted ext) true story

-- an audio packet of this format as an item; an empty payload makes none
abbrev pub sound_of : Format → MediaPacket → List Input
sound_of format c =
    if nat_eq (length c.packet.payload) 0 then []
    else Input.audio (record {
      source = c.packet.header.ssrc;
      address = c.from;
      rate = rate_of format;
      ts = c.packet.header.ts;
      samples = samples_of_packet format c.packet.payload;
    }) ∷ []

-- Only an accepted packet is heard.
abbrev pub sounds : Format → MediaPacket → Verdict → List Input
sounds format c verdict = if is_some (accepted verdict) then sound_of format c else []

-- Audio has no gate.
abbrev pub audio_course : Format → MediaPacket → Verdict → Story → Course
audio_course format c verdict story = verdict_with verdict (sounds format c verdict) story
