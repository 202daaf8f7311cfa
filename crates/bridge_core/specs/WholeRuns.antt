-- What is promised of whole runs (own).
use Rattle.std.specs.Prelude.{◌≡◌, ℕ, ◌%◌, true, nat_eq, if◌then◌else◌, List, ◌∷◌, [], ◌++◌, map, filter, None, Some}
use Rattle.std.specs.List.{AllByRecursion, Contains, IsDistinct, flat_map}
use Rattle.desk_rows.specs.declared.row.Member.{Member as MemberRow}
use Rattle.desk_rows.specs.Desk.{Desk}
use Rattle.retransmit.specs.SentPacket.{SentPacket}
use Rattle.retransmit.specs.Window.{window_size, latest}
use Rattle.topology.specs.declared.receivers.Receiver.{Receiver}
use Rattle.topology.specs.Receivers.{receiver_on}
use Rattle.topology.specs.Mixes.{mix_member}
use Rattle.media_items.specs.Frame.{SourceFrame}
use Rattle.forward_rewrite.specs.Mixes.{Sound}
use Rattle.media_items.specs.OwnStreams.{is_mine}
use Rattle.mixer.specs.Hearing.{voices_of, sound_for}
use Rattle.mixer.specs.Mixes.{mixes}
use Rattle.sender_feedback.specs.Upstream.{Asker}
use Rattle.media_items.specs.Inputs.{Input, Request, Told, Loss}
use Rattle.bridge_core.specs.Sent.{Sent}
use Rattle.media_items.specs.Inputs.Input.{frame, audio, tick, nack, block, pli, report, renew}
use Rattle.topology.specs.Looking.{member_from}
use Rattle.receiver_feedback.specs.PassedUp.{pli_up}
use Rattle.receiver_feedback.specs.Resends.{resends}
use Rattle.bridge_core.specs.Lanes.{packets, goes, routed, routed_to, stream_of, given_of}
use Rattle.bridge_core.specs.Lanes.{passed_up, notes, reports_to, is_lanes, sends_at}
use Rattle.bridge_core.specs.Steps.{Step, visits, visit_after, sends}
use Rattle.bridge_core.specs.Named.{Name, StreamKind, is_on, firsts}
use Rattle.bridge_core.specs.Telling.{IsSenderReportOf, IsNoteOf, IsPassedUpOf}
use Rattle.bridge_core.specs.Headline.{HaveNoGap, numbers, numbered_of, IsChosenOf}
use Rattle.bridge_core.specs.Headline.{GoesWhole, IsMixOf, GoesOnce, IsOwed, LeadsBack}

-- what a lane sends for an input that comes after these steps
abbrev pub sent_after : Asker → ℕ → Desk → List Step → ℕ → Input → List Sent
sent_after who lanes start before lane input =
    sends_at who lane lanes (visits lane start before) (visit_after start before lane input)

-- Each packet of the frame is one that the desk of its version chose, and all whose streams are the lane's and who
-- chose the frame's source get all of it.
pub record IsShared (who : Asker) (lanes : ℕ) (start : Desk) (before : List Step) (lane : ℕ)
    (f : SourceFrame) : Type 0 where
  pub chosen : AllByRecursion (IsChosenOf (visit_after start before lane (frame f)) f)
      (sent_after who lanes start before lane (frame f))
  pub whole : (ssrc : ℕ) (r : Receiver) → is_mine lane lanes ssrc ≡ true
      → receiver_on (visit_after start before lane (frame f)).desk f.source f.address ssrc ≡ Some r
      → GoesWhole ssrc (routed_to (visit_after start before lane (frame f)) f r).sending
      (filter (is_on ssrc) (sent_after who lanes start before lane (frame f)))

-- Each packet of the tick is a mix that the desk of its version gives, and all members whose mixes are on the lane's
-- streams and who hear anything get theirs.
pub record IsMixed (who : Asker) (lanes : ℕ) (start : Desk) (before : List Step) (lane moment : ℕ) : Type 0 where
  pub heard : AllByRecursion
      (IsMixOf (given_of (visits lane start before)) (visit_after start before lane (tick moment)))
      (sent_after who lanes start before lane (tick moment))
  pub whole : (m : MemberRow) (sound : Sound) → is_mine lane lanes m.out_audio ≡ true
      → mix_member (visit_after start before lane (tick moment)).desk m.out_audio ≡ Some m
      → sound_for (voices_of (given_of (visits lane start before)) (visit_after start before lane (tick moment)).desk)
      (visit_after start before lane (tick moment)).desk m ≡ Some sound
      → GoesOnce (visit_after start before lane (tick moment)) m sound
      (filter (is_on m.out_audio) (sent_after who lanes start before lane (tick moment)))

-- The NACK is answered in the stream's lane alone. All that is sent again leads back, all that is owed to who asks is
-- sent, and no number is sent twice.
pub record IsAskedAgain (who : Asker) (lanes : ℕ) (start : Desk) (before : List Step) (lane : ℕ)
    (request : Request) : Type 0 where
  pub given : sent_after who lanes start before lane (nack request)
      ≡ (if is_mine lane lanes request.out_ssrc
      then map (goes request.out_ssrc (Some (visit_after start before lane (nack request)).version))
      (resends (visit_after start before lane (nack request)).desk request.from request.numbers
      (latest window_size (packets request.out_ssrc (visits lane start before)))) else [])
  pub each : AllByRecursion
      (LeadsBack who lanes start before lane (visit_after start before lane (nack request)) request)
      (sent_after who lanes start before lane (nack request))
  pub all : (p : SentPacket) → is_mine lane lanes request.out_ssrc ≡ true
      → IsOwed start before lane (visit_after start before lane (nack request)) request p
      → Contains (sent_after who lanes start before lane (nack request))
      (goes request.out_ssrc (Some (visit_after start before lane (nack request)).version) p)
  pub once : IsDistinct nat_eq (numbers (sent_after who lanes start before lane (nack request)))

-- The block is answered in the stream's lane alone, by a note that leads back.
pub record IsNoted (who : Asker) (lanes : ℕ) (start : Desk) (before : List Step) (lane : ℕ) (told : Told) : Type 0 where
  pub given : sent_after who lanes start before lane (block told)
      ≡ (if is_mine lane lanes told.block.ssrc
      then notes (visit_after start before lane (block told)) told
      (member_from (visit_after start before lane (block told)).desk told.from)
      (stream_of told.block.ssrc (routed told.block.ssrc (visits lane start before))) else [])
  pub each : AllByRecursion (IsNoteOf who lanes start before lane (visit_after start before lane (block told)) told)
      (sent_after who lanes start before lane (block told))

-- The lost picture is answered in the stream's lane alone, by a PLI to the sender of what the slot chose.
pub record IsAskedFor (who : Asker) (lanes : ℕ) (start : Desk) (before : List Step) (lane : ℕ)
    (loss : Loss) : Type 0 where
  pub given : sent_after who lanes start before lane (pli loss)
      ≡ (if is_mine lane lanes loss.out_ssrc
      then passed_up who (visit_after start before lane (pli loss)) loss
      (pli_up (visit_after start before lane (pli loss)).desk loss.from loss.out_ssrc) else [])
  pub each : AllByRecursion (IsPassedUpOf who (visit_after start before lane (pli loss)) loss)
      (sent_after who lanes start before lane (pli loss))

-- What is sent is all reports to members about streams that are the lane's, and each counts what was sent first.
pub record IsReported (who : Asker) (lanes : ℕ) (start : Desk) (before : List Step) (lane moment : ℕ) : Type 0 where
  pub given : sent_after who lanes start before lane (report moment)
      ≡ filter (is_lanes lane lanes)
      (flat_map (reports_to who (visits lane start before) (visit_after start before lane (report moment)) moment)
      (visit_after start before lane (report moment)).desk.members)
  pub each : AllByRecursion
      (IsSenderReportOf who lanes start before (visit_after start before lane (report moment)) moment)
      (sent_after who lanes start before lane (report moment))

-- An input is answered by what was promised of its kind: a frame goes to all who chose it, sound sends nothing, and at
-- a tick all hear their mixes. A NACK is answered by all that is owed and nothing else, and notes lead back. Lost
-- pictures go to the chosen sources, and reports count what was sent for the first time. That buffers begin anew from
-- here on sends nothing.
abbrev pub IsKept : Asker → ℕ → Desk → List Step → ℕ → Input → Type 0
IsKept who lanes start before lane (frame f) = IsShared who lanes start before lane f
IsKept who lanes start before lane (audio sound) = sent_after who lanes start before lane (audio sound) ≡ []
IsKept who lanes start before lane (tick moment) = IsMixed who lanes start before lane moment
IsKept who lanes start before lane (nack request) = IsAskedAgain who lanes start before lane request
IsKept who lanes start before lane (block told) = IsNoted who lanes start before lane told
IsKept who lanes start before lane (pli loss) = IsAskedFor who lanes start before lane loss
IsKept who lanes start before lane (report moment) = IsReported who lanes start before lane moment
IsKept who lanes start before lane renew = sent_after who lanes start before lane renew ≡ []

-- What holds of all that is sent over these steps, on this many lanes and from this desk on. It is what the definition
-- gives. Each stream's first sendings are its routed list or its mix list, numbered without a gap. Each item is
-- answered as was promised.
pub record Holds (who : Asker) (lanes : ℕ) (start : Desk) (steps : List Step) (sent : List (List Sent)) : Type 0 where
  pub given : sent ≡ sends who lanes start steps
  pub lists : (ssrc : ℕ)
      → firsts who lanes start (record { kind = StreamKind.video; ssrc = ssrc }) steps
      ≡ map (goes ssrc None) (packets ssrc (visits (ssrc % lanes) start steps))
  pub mix_lists : (ssrc : ℕ)
      → map numbered_of (firsts who lanes start (record { kind = StreamKind.mix; ssrc = ssrc }) steps)
      ≡ mixes ssrc (given_of (visits (ssrc % lanes) start steps))
  pub no_gap : (name : Name) → HaveNoGap (numbers (firsts who lanes start name steps))
  pub kept : (before after : List Step) (lane : ℕ) (input : Input) → steps ≡ before ++ Step.item lane input ∷ after
      → IsKept who lanes start before lane input
