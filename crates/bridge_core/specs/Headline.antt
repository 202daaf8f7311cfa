-- Each stream numbers without a gap, each packet is its version's choice, each frame goes whole to all who chose it,
-- and what is sent again was sent before (RFC 3550 section 5.1 for the numbers; all else is own).
use Rattle.std.specs.Prelude.{◌≡◌, ℕ, ◌+◌, ◌%◌, ◌^◌, true, Bool, List, [], ◌∷◌, map, Some, None, option_map}
use Rattle.std.specs.List.{AllByRecursion, Contains}
use Rattle.desk_rows.specs.declared.row.Member.{Member as MemberRow}
use Rattle.desk_rows.specs.Desk.{Desk, good}
use Rattle.rtp_codec.specs.Packet.{written}
use Rattle.frame_gate.specs.Frame.{SourcePacket}
use Rattle.retransmit.specs.SentPacket.{SentPacket}
use Rattle.retransmit.specs.Window.{window_size, latest}
use Rattle.topology.specs.Looking.{comes_from, member_from}
use Rattle.topology.specs.Choice.{choice}
use Rattle.topology.specs.Receivers.{receiver_on}
use Rattle.topology.specs.Mixes.{mix_member}
use Rattle.media_items.specs.Frame.{SourceFrame}
use Rattle.forward_rewrite.specs.Sending.{Sending, Numbered}
use Rattle.forward_rewrite.specs.Mixes.{Sound, mix_packet}
use Rattle.forward_rewrite.specs.RoutedList.{part_of, header_of, numbered}
use Rattle.mixer.specs.Hearing.{Given, voices_of, sound_for}
use Rattle.mixer.specs.Mixes.{to_member}
use Rattle.media_items.specs.Inputs.{Request}
use Rattle.media_items.specs.Inputs.Input.{frame}
use Rattle.bridge_core.specs.Sent.{Sent, MediaPacket}
use Rattle.bridge_core.specs.Sent.Sent.{media, control, note}
use Rattle.sender_feedback.specs.Upstream.{Asker}
use Rattle.bridge_core.specs.Lanes.{Visit, packets, goes, mix_goes}
use Rattle.bridge_core.specs.Steps.{Step, visits}
use Rattle.bridge_core.specs.Named.{StreamKind, firsts}

-- a packet's number; nothing else has one
abbrev pub number_of : Sent → ℕ
number_of (media p) = p.number
number_of (control c) = 0
number_of (note n) = 0

-- a packet's number and its octets
abbrev pub numbered_of : Sent → Numbered
numbered_of (media p) = record { number = p.number; bytes = p.bytes }
numbered_of (control c) = record { number = 0; bytes = c.bytes }
numbered_of (note n) = record { number = 0; bytes = [] }

-- the numbers of packets in a row
abbrev pub numbers : List Sent → List ℕ
numbers sent = map number_of sent

-- Each number is one more than that before it, modulo 2 ^ 16, the first one than this.
abbrev pub FollowOn : ℕ → List ℕ → Type 0
FollowOn n [] = Unit {0}
FollowOn n (m ∷ ms) = (m ≡ (n + 1) % 2 ^ 16) × FollowOn m ms

-- Each number but the first is one more than that before it, modulo 2 ^ 16.
abbrev pub HaveNoGap : List ℕ → Type 0
HaveNoGap [] = Unit {0}
HaveNoGap (n ∷ ns) = FollowOn n ns

-- A desk that is published is good.
abbrev pub IsGood : Step → Type 0
IsGood (Step.publish desk) = good desk ≡ true
IsGood (Step.item lane input) = Unit {0}

-- All desks that are published are good.
abbrev pub AreGood : List Step → Type 0
AreGood steps = AllByRecursion IsGood steps

-- The packet is sent first at this visit; by its version's desk, its stream chose the frame's source, which is at the
-- frame's address, and it goes to its slot's member.
pub record IsChosen (visit : Visit) (f : SourceFrame) (p : MediaPacket) : Type 0 where
  pub version : p.version ≡ visit.version
  pub item : p.item ≡ visit.item
  pub first : p.resent_by ≡ None
  pub choice : choice visit.desk p.ssrc ≡ Some f.source
  pub from : comes_from visit.desk f.source f.address ≡ true
  pub to : option_map (λ r. r.address) (receiver_on visit.desk f.source f.address p.ssrc) ≡ Some p.to

-- What is sent of a frame is a packet, and is chosen.
abbrev pub IsChosenOf : Visit → SourceFrame → Sent → Type 0
IsChosenOf visit f (media p) = IsChosen visit f p
IsChosenOf visit f (control c) = ⊥
IsChosenOf visit f (note n) = ⊥

-- The packet is sent first at this visit, after what the mixer was given; by its version's desk, it goes to the member
-- whose mix its stream is, at its address, and carries what the member hears, under some number and timestamp, with or
-- without the marker.
pub record IsMix (before : List Given) (visit : Visit) (p : MediaPacket) : Type 0 where
  pub version : p.version ≡ visit.version
  pub item : p.item ≡ visit.item
  pub first : p.resent_by ≡ None
  pub member : MemberRow
  pub mix : mix_member visit.desk p.ssrc ≡ Some member
  pub to : p.to ≡ member.address
  pub sound : Sound
  pub heard : sound_for (voices_of before visit.desk) visit.desk member ≡ Some sound
  pub number : ℕ
  pub ts : ℕ
  pub marker : Bool
  pub packet : numbered_of (media p) ≡ mix_packet p.ssrc number ts marker sound

-- What is sent at a tick is a packet, and is a mix.
abbrev pub IsMixOf : List Given → Visit → Sent → Type 0
IsMixOf before visit (media p) = IsMix before visit p
IsMixOf before visit (control c) = ⊥
IsMixOf before visit (note n) = ⊥

-- What is sent on a stream is one packet of this sound, to this member, for the first time.
pub record GoesOnce (visit : Visit) (m : MemberRow) (sound : Sound) (sent : List Sent) : Type 0 where
  pub number : ℕ
  pub ts : ℕ
  pub marker : Bool
  pub once : sent ≡ mix_goes visit (to_member m (mix_packet m.out_audio number ts marker sound)) ∷ []

-- What is sent on a stream is all packets of this frame, in order, numbered in a row and with one timestamp, for the
-- first time.
pub record GoesWhole (ssrc : ℕ) (sending : Sending) (sent : List Sent) : Type 0 where
  pub number : ℕ
  pub ts : ℕ
  pub whole : sent
      ≡ map (goes ssrc None)
      (numbered ssrc number (map (part_of record { sending = sending; ts = ts }) sending.frame.frame.packets))

-- The packet carries a packet of a frame that the lane was given at the visit that it names. It has the frame's source,
-- address and epoch, and that packet's extended number, marker, payload type and payload.
pub record Carries (ssrc : ℕ) (visits : List Visit) (p : SentPacket) : Type 0 where
  pub visit : Visit
  pub handled : Contains visits visit
  pub version : p.version ≡ visit.version
  pub item : p.item ≡ visit.item
  pub f : SourceFrame
  pub input : visit.input ≡ frame f
  pub source : p.source ≡ f.source
  pub address : p.address ≡ f.address
  pub epoch : p.epoch ≡ f.epoch
  pub carried : SourcePacket
  pub of_frame : Contains f.frame.packets carried
  pub ext : p.ext ≡ carried.ext
  pub ts : ℕ
  pub bytes : p.bytes ≡ written (header_of ssrc p.number ts carried) (f.source ∷ []) carried.payload

-- The packet is owed to who asks: its number was asked for, it is one of the last 512 packets of the stream, and it
-- went to the member that is at the asking address now, at that address.
pub record IsOwed (start : Desk) (before : List Step) (lane : ℕ) (visit : Visit) (request : Request)
    (p : SentPacket) : Type 0 where
  pub asked : Contains request.numbers p.number
  pub recent : Contains (latest window_size (packets request.out_ssrc (visits lane start before))) p
  pub address : p.owner.address ≡ request.from
  pub member : member_from visit.desk request.from ≡ Some p.owner.member

-- What is sent again is, octet for octet, a packet that is owed to who asks. It was sent on the stream for the first
-- time, and carries a source's packet.
pub record LeadsBack (who : Asker) (lanes : ℕ) (start : Desk) (before : List Step) (lane : ℕ) (visit : Visit)
    (request : Request) (sent : Sent) : Type 0 where
  pub packet : SentPacket
  pub same : sent ≡ goes request.out_ssrc (Some visit.version) packet
  pub owed : IsOwed start before lane visit request packet
  pub sent_before : Contains
      (firsts who lanes start (record { kind = StreamKind.video; ssrc = request.out_ssrc }) before)
      (goes request.out_ssrc None packet)
  pub carries : Carries request.out_ssrc (visits lane start before) packet
