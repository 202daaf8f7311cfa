-- What a wait does: time passes for a source, and nothing comes (RFC 4585 sections 6.2.1 and 6.3.1; what is asked for
-- again, and what is given up, is own).
use Rattle.std.specs.Prelude.{ℕ, ℤ, List, [], ◌∷◌, ◌++◌, length, drop, map, filter, Option, None, Some, is_some}
use Rattle.frame_gate.specs.Packets.{ext_of}
use Rattle.frame_gate.specs.Frame.{WholeFrame}
use Rattle.frame_gate.specs.Epochs.{frames_of}
use Rattle.frame_gate.specs.GivenUp.{missing_in}
use Rattle.frame_gate.specs.Watched.{GateEvent, wait, Watch, watch_of, is_asked, lost_in, waited}
use Rattle.desk_rows.specs.Desk.{Desk}
use Rattle.desk_rows.specs.declared.row.Media.{Media}
use Rattle.desk_rows.specs.declared.row.Media.TheVariants.{Audio, Video}
use Rattle.desk_rows.specs.declared.row.Source.{Source}
use Rattle.topology.specs.Looking.{source_from}
use Rattle.ingress.specs.declared.outcome.Outcome.TheVariants.{Unknown}
use Rattle.ingress.specs.Stories.{Story}
use Rattle.ingress.specs.Sources.{Origin, Sources, story_at, retold}
use Rattle.ingress.specs.Ingested.{Ingested, only}
use Rattle.ingress.specs.Media.{frames_from}
use Rattle.ingress.specs.Taking.{Voice, asked_of}

-- the numbers that a gate asks for again
abbrev pub asked_again : Watch → List ℤ
asked_again w = map ext_of (filter (is_asked w.marks) (missing_in w.epoch))

-- the frames that a wait newly closes: a number before them was given up
abbrev pub freed : Watch → List WholeFrame
freed w = drop (length (frames_of w.epoch)) (frames_of (waited w).epoch)

-- with one more wait; a gate begins with its first packet
abbrev pub with_wait : List GateEvent → List GateEvent
with_wait [] = []
with_wait (e ∷ events) = e ∷ (events ++ wait ∷ [])

-- the story with one more wait at its gate
abbrev pub waited_on : Story → Story
waited_on story = record story { gate_events = with_wait story.gate_events }

-- the answer to a wait at a gate: a request for what is asked for again and for a picture where a number was given up,
-- and the freed frames; as a datagram of an unknown source, it earns nothing
abbrev pub wait_at : Voice → Origin → (moment epoch : ℕ) → Watch → Ingested
wait_at voice o moment epoch w = record {
  outcome = Unknown;
  up = asked_of voice o (asked_again w) (is_some (lost_in w));
  items = frames_from o moment epoch (freed w);
}

-- the answer to a wait of a source with this story; nothing comes of an unknown one
abbrev pub wait_in : Voice → Origin → (moment : ℕ) → Option Story → Ingested
wait_in voice o moment None = only Unknown
wait_in voice o moment (Some story) = wait_at voice o moment story.epoch (watch_of story.gate_events)

-- a wait of a video source, and the sources after it, in the same order
abbrev pub video_waited : Voice → Origin → (moment : ℕ) → Sources → Ingested × Sources
video_waited voice o moment s =
    (wait_in voice o moment (story_at o s.known), record s { known = retold o waited_on s.known })

-- a wait by what the source sends; audio has no gate
abbrev pub waited_by : Voice → Media → Origin → (moment : ℕ) → Sources → Ingested × Sources
waited_by voice Audio o moment s = (only Unknown, s)
waited_by voice Video o moment s = video_waited voice o moment s

-- a wait of the source in a row
abbrev pub waited_row : Voice → Option Source → Origin → (moment : ℕ) → Sources → Ingested × Sources
waited_row voice None o moment s = (only Unknown, s)
waited_row voice (Some row) o moment s = waited_by voice row.media o moment s

-- a wait of the source of this SSRC of a member at this address: what is answered, and the sources after it
abbrev pub waited_for : Voice → Desk → Origin → (moment : ℕ) → Sources → Ingested × Sources
waited_for voice d o moment s = waited_row voice (source_from d o.ssrc o.address) o moment s
