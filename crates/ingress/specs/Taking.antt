-- The answer to a datagram, and what is known of sources after it: the first outcome that holds (own).
use Rattle.std.specs.Prelude.{ℕ, ℤ, ◌+◌, ◌-◌, ◌<◌, ◌^◌, Bool, true, not, ◌&&◌, nat_eq, if◌then◌else◌, List, [], ◌∷◌}
use Rattle.std.specs.Prelude.{length, map, Option, None, Some, unwrap_or}
use Rattle.std.specs.List.{flat_map, AllByRecursion}
use Rattle.rtp_codec.specs.declared.address.Address.{Address}
use Rattle.rtcp_codec.specs.declared.nack.NackWord.{NackWord}
use Rattle.rtcp_codec.specs.Packet.{Packet as RtcpPacket}
use Rattle.rtcp_codec.specs.Nack.{IsPacking}
use Rattle.rtcp_codec.specs.Compound.{written}
use Rattle.source_valid.specs.declared.verdict.Verdict.{Verdict}
use Rattle.desk_rows.specs.Desk.{Desk}
use Rattle.desk_rows.specs.declared.row.Media.{Media}
use Rattle.desk_rows.specs.declared.row.Media.TheVariants.{Audio, Video}
use Rattle.desk_rows.specs.declared.row.Source.{Source}
use Rattle.topology.specs.Looking.{source_from, member_from, rate_of as rate_of_member}
use Rattle.sender_feedback.specs.Upstream.{Asker, seq_of, upstream_packets}
use Rattle.ingress.specs.declared.outcome.Outcome.TheVariants.{TooLong, Neither, BadRtp, BadRtcp, Unknown, BadPayload}
use Rattle.ingress.specs.declared.outcome.Outcome.TheVariants.{Spent, Rtcp}
use Rattle.ingress.specs.Readings.{Reading, too_long, neither, no_packet, packet, no_compound, compound}
use Rattle.ingress.specs.Stories.{Story, story_by, validated, begins, validated_on}
use Rattle.ingress.specs.Sources.{Origin, Sources, story_at, used}
use Rattle.ingress.specs.Ingested.{Ingested, only}
use Rattle.media_items.specs.Rates.{video_rate}
use Rattle.media_items.specs.Formats.{rate_of}
use Rattle.media_items.specs.declared.format.Format.{Format}
use Rattle.ingress.specs.Media.{MediaPacket, Course, origin_of, arrival_of, audio_format, audio_course, video_course}
use Rattle.ingress.specs.Control.{asks, noted_all}

-- how the bridge speaks to senders: who it is, and the words by which it names lost packets
pub record Voice : Type 0 where
  pub asker : Asker
  pub words : List ℕ → List NackWord

-- The words are those of the NACK's definition, for all sequence numbers.
abbrev pub IsVoice : Voice → Type 0
IsVoice v = (numbers : List ℕ) → AllByRecursion (λ n. n < 2 ^ 16) numbers → IsPacking numbers (v.words numbers)

-- a datagram: the desk as it is, from where and at which moment it came, and what its octets are
pub record Datagram : Type 0 where
  pub desk : Desk
  pub from : Address
  pub moment : ℕ
  pub reading : Reading

-- the most epochs (own)
abbrev pub most_epochs : ℕ
most_epochs = 2 ^ 64 - 1

-- ---- media packets

-- the octets in which the bridge asks a source for packets, and for a picture
unfoldable pub asking : Voice → ℕ → List ℤ → Bool → List ℕ
asking voice source nacks pli = written (upstream_packets voice.asker source (voice.words (map seq_of nacks)) pli)

-- what is sent to a source whose packets are missing, or whose picture is lost
abbrev pub asked_of : Voice → Origin → List ℤ → Bool → List (Address × List ℕ)
asked_of voice o nacks pli =
    if nat_eq (length nacks) 0 && not pli then [] else (o.address, asking voice o.ssrc nacks pli) ∷ []

-- the datagram that asks a source for a picture, and for nothing else (RFC 4585 section 6.3.1)
abbrev pub picture_request : Asker → Origin → Address × List ℕ
picture_request who o = (o.address, written (upstream_packets who o.ssrc [] true))

-- the answer to a packet that does this for its source
abbrev pub answer_of : Voice → MediaPacket → Course → Ingested
answer_of voice c course = record {
  outcome = course.outcome;
  up = asked_of voice (origin_of c) course.nacks course.pli;
  items = course.items;
}

-- the sources after it: this one was used last
abbrev pub sources_after : MediaPacket → Bool → Course → Sources → Sources
sources_after c initialised course s = record {
  known = used (record { origin = origin_of c; story = course.story }) s.known;
  epochs = if initialised then s.epochs + 1 else s.epochs;
}

-- what the packet does for a source with this story, unless it would begin an epoch and none is left
abbrev pub taken_by : Voice → ℕ → (Verdict → Story → Course) → MediaPacket → Sources → Story → Ingested × Sources
taken_by voice rate course_of c s story =
    if begins story (arrival_of rate c).seq && nat_eq s.epochs most_epochs then (only Spent, s)
    else (
      answer_of voice c
          (course_of (validated story (arrival_of rate c).seq) (validated_on story s.epochs (arrival_of rate c))),
      sources_after c (begins story (arrival_of rate c).seq)
          (course_of (validated story (arrival_of rate c).seq) (validated_on story s.epochs (arrival_of rate c))) s,
    )

-- its source takes the packet
abbrev pub sourced : Voice → ℕ → (Verdict → Story → Course) → MediaPacket → Sources → Ingested × Sources
sourced voice rate course_of c s = taken_by voice rate course_of c s (story_by rate (story_at (origin_of c) s.known))

-- the clock rate of audio in the room of a source's member, in Hz; 8000 where there is no such member, which no good
-- desk has
abbrev pub room_rate : Desk → Source → ℕ
room_rate d row = unwrap_or (rate_of_member d row.member) 8000

-- an audio packet, by its format if it has one
abbrev pub of_format : Voice → Option Format → MediaPacket → Sources → Ingested × Sources
of_format voice None c s = (only BadPayload, s)
of_format voice (Some format) c s = sourced voice (rate_of format) (audio_course format c) c s

-- by what its source sends, in a room of this clock rate
abbrev pub of_media : Voice → Media → ℕ → MediaPacket → Sources → Ingested × Sources
of_media voice Audio rate c s = of_format voice (audio_format rate c.packet.header.pt (length c.packet.payload)) c s
of_media voice Video rate c s = sourced voice video_rate (video_course c) c s

-- a packet of the source in a row
abbrev pub of_row : Voice → Desk → Option Source → MediaPacket → Sources → Ingested × Sources
of_row voice d None c s = (only Unknown, s)
of_row voice d (Some row) c s = of_media voice row.media (room_rate d row) c s

-- ---- all datagrams

-- a compound of the member at an address, which came at a moment
abbrev pub of_member : Option ℕ → Address → ℕ → List RtcpPacket → Sources → Ingested × Sources
of_member None from moment packets s = (only Unknown, s)
of_member (Some member) from moment packets s = (
  record { outcome = Rtcp (length packets); up = []; items = flat_map (asks from) packets },
  record { known = noted_all from moment s.known packets; epochs = s.epochs },
)

-- by what its octets are
abbrev pub read_as : Voice → Datagram → Reading → Sources → Ingested × Sources
read_as voice d too_long s = (only TooLong, s)
read_as voice d neither s = (only Neither, s)
read_as voice d (no_packet fault) s = (only (BadRtp fault), s)
read_as voice d (packet p) s =
    of_row voice d.desk (source_from d.desk p.header.ssrc d.from)
    (record { from = d.from; moment = d.moment; packet = p }) s
read_as voice d (no_compound fault) s = (only (BadRtcp fault), s)
read_as voice d (compound packets) s = of_member (member_from d.desk d.from) d.from d.moment packets s

-- the answer to a datagram, and the sources after it
abbrev pub taken_in : Voice → Sources → Datagram → Ingested × Sources
taken_in voice s d = read_as voice d d.reading s
