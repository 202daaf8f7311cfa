-- Without waits packets alone come to the gates.
use Rattle.std.proofs.Common.{◌≡◌, ℕ, zero, suc, ◌-◌, Bool, true, false, ◌&&◌, nat_eq, if◌then◌else◌, List, [], ◌∷◌}
use Rattle.std.proofs.Common.{◌++◌, map, take, Option, None, Some, is_some, length, refl, sym, ap, ◌∙◌}
use Rattle.std.specs.List.{AllByRecursion}
use Rattle.rtp_codec.specs.declared.address.Address.{Address}
use Rattle.rtcp_codec.specs.Packet.{Packet as RtcpPacket, Sender, Receiver, Sdes, Bye, App, Nack, Pli, Other}
use Rattle.source_valid.specs.declared.verdict.Verdict.{Verdict}
use Rattle.source_valid.specs.declared.verdict.Verdict.TheVariants.{Probation, Accepted, Jump, Restarted}
use Rattle.source_valid.specs.declared.heard.Heard.{Heard}
use Rattle.source_valid.specs.Histories.{standing_of, past_probation_in}
use Rattle.frame_gate.specs.Packets.{NumberedPacket}
use Rattle.frame_gate.specs.Watched.{GateEvent, came}
use Rattle.desk_rows.specs.Desk.{Desk}
use Rattle.desk_rows.specs.declared.row.Media.{Media}
use Rattle.desk_rows.specs.declared.row.Media.TheVariants.{Audio, Video}
use Rattle.desk_rows.specs.declared.row.Member.{Member}
use Rattle.desk_rows.specs.declared.row.Source.{Source}
use Rattle.topology.specs.Looking.{source_from, member_from, member_at}
use Rattle.topology.specs.Choice.{sources_of}
use Rattle.media_items.specs.Rates.{video_rate}
use Rattle.media_items.specs.Formats.{rate_of}
use Rattle.media_items.specs.declared.format.Format.{Format}
use Rattle.sender_feedback.specs.Upstream.{Asker}
use Rattle.ingress.specs.Readings.{Reading, too_long, neither, no_packet, packet, no_compound, compound}
use Rattle.ingress.specs.Stories.{Story, RtpArrival, untold, story_by, validated, begins, validated_on}
use Rattle.ingress.specs.Sources.{Origin, Known, Sources, most_known, same_origin, story_at, without, used, retold}
use Rattle.ingress.specs.Ingested.{Ingested}
use Rattle.ingress.specs.Media.{MediaPacket, Course, origin_of, arrival_of, audio_format, audio_course, video_course}
use Rattle.ingress.specs.Control.{heard_on, noted, noted_all}
use Rattle.ingress.specs.Taking.{Voice, Datagram, most_epochs, taken_by, of_format, of_media, of_row, of_member}
use Rattle.ingress.specs.Taking.{read_as}
use Rattle.ingress.specs.Taking.{room_rate}
use Rattle.ingress.specs.Reported.{renewed, renewed_at, renewed_on, all_renewed}
use Rattle.ingress.specs.PacketsAlone.{HasPacketsAlone, HavePacketsAlone}

-- ---- one source

abbrev Alone : List GateEvent → Type 0
Alone events = (packets : List NumberedPacket) × (events ≡ map came packets)

one_more : (packets : List NumberedPacket) (p : NumberedPacket)
    → map came packets ++ came p ∷ [] ≡ map came (packets ++ p ∷ [])
one_more [] p = refl
one_more (q ∷ packets) p = ap (λ es. came q ∷ es) (one_more packets p)

with_packet : (events : List GateEvent) (p : NumberedPacket) → Alone events → Alone (events ++ came p ∷ [])
with_packet events p h = (h.0 ++ p ∷ [], ap (λ es. es ++ came p ∷ []) h.1 ∙ one_more h.0 p)

either : {X : Type 0} (P : X → Type 0) (b : Bool) (x y : X) → P x → P y → P (if b then x else y)
either P true x y p q = p
either P false x y p q = q

-- a change of a story that leaves its packets alone
abbrev Keeps : (Story → Story) → Type 0
Keeps f = (story : Story) → HasPacketsAlone story → HasPacketsAlone (f story)

heard_alone : (heard : Heard) → Keeps (heard_on heard)
heard_alone heard story h = either HasPacketsAlone (past_probation_in (standing_of story.given)) _ _ h h

renewed_alone : Keeps renewed
renewed_alone story h = either HasPacketsAlone (past_probation_in (standing_of story.given)) _ _ h h

abbrev IfAlone : Option Story → Type 0
IfAlone None = Unit {0}
IfAlone (Some story) = HasPacketsAlone story

story_by_alone : (rate : ℕ) (story : Option Story) → IfAlone story → HasPacketsAlone (story_by rate story)
story_by_alone rate None h = ([], refl)
story_by_alone rate (Some story) h = either HasPacketsAlone (nat_eq story.rate rate) story (untold rate) h ([], refl)

validated_alone : (story : Story) (epochs : ℕ) (m : RtpArrival) → HasPacketsAlone story
    → HasPacketsAlone (validated_on story epochs m)
validated_alone story epochs m h = either Alone (begins story m.seq) [] story.gate_events ([], refl) h

-- a packet leaves a source's story so
abbrev CourseKeeps : (Verdict → Story → Course) → Type 0
CourseKeeps course_of =
    (v : Verdict) (story : Story) → HasPacketsAlone story → HasPacketsAlone (course_of v story).story

video_alone : (c : MediaPacket) → CourseKeeps (video_course c)
video_alone c Probation story h = h
video_alone c (Accepted ext) story h = with_packet story.gate_events _ h
video_alone c Jump story h = h
video_alone c (Restarted ext) story h = with_packet story.gate_events _ h

audio_alone : (format : Format) (c : MediaPacket) → CourseKeeps (audio_course format c)
audio_alone format c v story h = h

-- ---- all sources

abbrev All : List Known → Type 0
All ks = AllByRecursion (λ k. HasPacketsAlone k.story) ks

at_alone : (o : Origin) (ks : List Known) → All ks → IfAlone (story_at o ks)
at_alone o [] h = tt
at_alone o (k ∷ ks) h = either IfAlone (same_origin o k.origin) (Some k.story) (story_at o ks) h.0 (at_alone o ks h.1)

take_alone : (n : ℕ) (ks : List Known) → All ks → All (take n ks)
take_alone zero ks h = tt
take_alone (suc n) [] h = tt
take_alone (suc n) (k ∷ ks) h = (h.0, take_alone n ks h.1)

without_alone : (o : Origin) (ks : List Known) → All ks → All (without o ks)
without_alone o [] h = tt
without_alone o (k ∷ ks) h = either All (same_origin o k.origin) ks (k ∷ without o ks) h.1 (h.0, without_alone o ks h.1)

used_alone : (k : Known) (ks : List Known) → HasPacketsAlone k.story → All ks → All (used k ks)
used_alone k ks p h =
    either All (is_some (story_at k.origin ks)) (k ∷ without k.origin ks) (k ∷ take (most_known - 1) ks)
    (p, without_alone k.origin ks h) (p, take_alone (most_known - 1) ks h)

retold_alone : (o : Origin) (f : Story → Story) → Keeps f → (ks : List Known) → All ks → All (retold o f ks)
retold_alone o f keeps [] h = tt
retold_alone o f keeps (k ∷ ks) h =
    either All (same_origin o k.origin) (record { origin = k.origin; story = f k.story } ∷ ks) (k ∷ retold o f ks)
    (keeps k.story h.0, h.1) (h.0, retold_alone o f keeps ks h.1)

-- ---- datagrams

abbrev After : Ingested × Sources → Type 0
After x = HavePacketsAlone x.1

taken_alone : (voice : Voice) (rate : ℕ) (course_of : Verdict → Story → Course) (c : MediaPacket) (s : Sources)
    → CourseKeeps course_of → HavePacketsAlone s → (story : Story) → HasPacketsAlone story
    → After (taken_by voice rate course_of c s story)
taken_alone voice rate course_of c s keeps h story p =
    either After (begins story (arrival_of rate c).seq && nat_eq s.epochs most_epochs) _ _ h
    (used_alone _ s.known
    (keeps (validated story (arrival_of rate c).seq) (validated_on story s.epochs (arrival_of rate c))
    (validated_alone story s.epochs (arrival_of rate c) p))
    h)

format_alone : (voice : Voice) (format : Option Format) (c : MediaPacket) (s : Sources) → HavePacketsAlone s
    → After (of_format voice format c s)
format_alone voice None c s h = h
format_alone voice (Some format) c s h =
    taken_alone voice (rate_of format) (audio_course format c) c s (audio_alone format c) h
    (story_by (rate_of format) (story_at (origin_of c) s.known))
    (story_by_alone (rate_of format) (story_at (origin_of c) s.known) (at_alone (origin_of c) s.known h))

media_alone : (voice : Voice) (media : Media) (rate : ℕ) (c : MediaPacket) (s : Sources) → HavePacketsAlone s
    → After (of_media voice media rate c s)
media_alone voice Audio rate c s h =
    format_alone voice (audio_format rate c.packet.header.pt (length c.packet.payload)) c s h
media_alone voice Video rate c s h =
    taken_alone voice video_rate (video_course c) c s (video_alone c) h
    (story_by video_rate (story_at (origin_of c) s.known))
    (story_by_alone video_rate (story_at (origin_of c) s.known) (at_alone (origin_of c) s.known h))

row_alone : (voice : Voice) (d : Desk) (row : Option Source) (c : MediaPacket) (s : Sources) → HavePacketsAlone s
    → After (of_row voice d row c s)
row_alone voice d None c s h = h
row_alone voice d (Some row) c s h = media_alone voice row.media (room_rate d row) c s h

noted_alone : (from : Address) (moment : ℕ) (ks : List Known) (p : RtcpPacket) → All ks → All (noted from moment ks p)
noted_alone from moment ks (Sender ssrc ntp ts packets octets blocks) h =
    retold_alone (record { address = from; ssrc = ssrc }) (heard_on (record { ntp = ntp; moment = moment }))
    (heard_alone _) ks h
noted_alone from moment ks (Receiver ssrc blocks) h = h
noted_alone from moment ks (Sdes chunks) h = h
noted_alone from moment ks (Bye ssrcs reason) h = h
noted_alone from moment ks (App subtype ssrc name content) h = h
noted_alone from moment ks (Nack sender media words) h = h
noted_alone from moment ks (Pli sender media) h = h
noted_alone from moment ks (Other pt count body) h = h

all_noted_alone : (from : Address) (moment : ℕ) (ks : List Known) (ps : List RtcpPacket) → All ks
    → All (noted_all from moment ks ps)
all_noted_alone from moment ks [] h = h
all_noted_alone from moment ks (p ∷ ps) h =
    all_noted_alone from moment (noted from moment ks p) ps (noted_alone from moment ks p h)

member_alone : (member : Option ℕ) (from : Address) (moment : ℕ) (ps : List RtcpPacket) (s : Sources)
    → HavePacketsAlone s → After (of_member member from moment ps s)
member_alone None from moment ps s h = h
member_alone (Some member) from moment ps s h = all_noted_alone from moment s.known ps h

pub datagram_alone : (voice : Voice) (d : Datagram) (r : Reading) (s : Sources) → HavePacketsAlone s
    → After (read_as voice d r s)
datagram_alone voice d too_long s h = h
datagram_alone voice d neither s h = h
datagram_alone voice d (no_packet fault) s h = h
datagram_alone voice d (packet p) s h = row_alone voice d.desk (source_from d.desk p.header.ssrc d.from) _ s h
datagram_alone voice d (no_compound fault) s h = h
datagram_alone voice d (compound packets) s h = member_alone (member_from d.desk d.from) d.from d.moment packets s h

-- ---- reports

renewed_at_alone : (ssrc : ℕ) (m : Option Member) (ks : List Known) → All ks → All (renewed_at ssrc m ks)
renewed_at_alone ssrc None ks h = h
renewed_at_alone ssrc (Some m) ks h =
    retold_alone (record { address = m.address; ssrc = ssrc }) renewed renewed_alone ks h

pub reports_alone : (d : Desk) (ks : List Known) (ss : List Source) → All ks → All (all_renewed d ks ss)
reports_alone d ks [] h = h
reports_alone d ks (s ∷ ss) h =
    reports_alone d (renewed_on d ks s) ss (renewed_at_alone s.ssrc (member_at d s.member) ks h)
