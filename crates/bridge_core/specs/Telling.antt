-- What is reported of outgoing streams: reports count what was sent for the first time, notes lead back to it, and a
-- lost picture is asked for at its source (RFC 3550 section 6.4, RFC 4585 section 6.3.1; that notes name the packet is
-- own).
use Rattle.std.specs.Prelude.{◌≡◌, ℕ, ◌+◌, ◌-◌, ◌*◌, ◌%◌, ◌^◌, true, List}
use Rattle.std.specs.Prelude.{[], ◌∷◌, length, map, sum_by, Some, None, IfSome, option_and_then}
use Rattle.std.specs.List.{Contains}
use Rattle.rtcp_codec.specs.Compound.{written}
use Rattle.rtcp_codec.specs.declared.report.ReportBlock.{ReportBlock}
use Rattle.desk_rows.specs.declared.row.Member.{Member as MemberRow}
use Rattle.desk_rows.specs.declared.row.Slot.{Slot as SlotRow}
use Rattle.desk_rows.specs.Desk.{Desk}
use Rattle.retransmit.specs.declared.owner.Owner.{Owner}
use Rattle.retransmit.specs.SentPacket.{SentPacket}
use Rattle.retransmit.specs.Window.{window_size, latest}
use Rattle.topology.specs.Looking.{member_at, member_from, sender_of, slot_at}
use Rattle.topology.specs.Choice.{choice}
use Rattle.topology.specs.Receivers.{slots_to}
use Rattle.forward_rewrite.specs.declared.counts.Counts.{Counts}
use Rattle.sender_feedback.specs.Upstream.{Asker, upstream_packets}
use Rattle.receiver_feedback.specs.SenderReports.{sender_packets}
use Rattle.media_items.specs.Inputs.{Told, Loss}
use Rattle.bridge_core.specs.Sent.{Sent, ControlPacket, Notice}
use Rattle.bridge_core.specs.Sent.Sent.{media, control, note}
use Rattle.bridge_core.specs.Lanes.{Visit, packets, goes}
use Rattle.bridge_core.specs.Steps.{Step, visits}
use Rattle.bridge_core.specs.Named.{StreamKind, firsts}
use Rattle.bridge_core.specs.Headline.{numbered_of}

-- This is an outgoing stream of the member: the video of one of its slots, or its mix.
abbrev pub IsOwnStream : Desk → MemberRow → StreamKind → ℕ → Type 0
IsOwnStream d m StreamKind.video ssrc = (slot : SlotRow) × Contains (slots_to d m.member) slot × (slot.out_ssrc ≡ ssrc)
IsOwnStream d m StreamKind.mix ssrc = m.out_audio ≡ ssrc

-- how many octets of payload a packet without padding and extension has: what is behind the twelve that each begins
-- with and the contributing sources that its first octet counts (RFC 3550 section 5.1)
abbrev pub payload_size : List ℕ → ℕ
payload_size [] = 0
payload_size (first ∷ more) = length (first ∷ more) - (12 + 4 * (first % 16))

-- At this visit a member is sent the sender report of one of its streams. It counts the packets that were sent on the
-- stream for the first time and their octets of payload, and no others.
pub record IsSenderReport (who : Asker) (lanes : ℕ) (start : Desk) (before : List Step) (visit : Visit) (moment : ℕ)
    (c : ControlPacket) : Type 0 where
  pub version : c.version ≡ visit.version
  pub item : c.item ≡ visit.item
  pub member : MemberRow
  pub of_desk : Contains visit.desk.members member
  pub to : c.to ≡ member.address
  pub kind : StreamKind
  pub own : IsOwnStream visit.desk member kind c.ssrc
  pub counts : Counts
  pub bytes : c.bytes ≡ written (sender_packets counts moment who.cname)
  pub ssrc : counts.ssrc ≡ c.ssrc
  pub packets : counts.packets ≡ length (firsts who lanes start (record { kind = kind; ssrc = c.ssrc }) before) % 2 ^ 32
  pub octets : counts.octets
      ≡ sum_by (λ p. payload_size p.bytes)
      (map numbered_of (firsts who lanes start (record { kind = kind; ssrc = c.ssrc }) before)) % 2 ^ 32

-- What is sent at a report is a sender report.
abbrev pub IsSenderReportOf : Asker → ℕ → Desk → List Step → Visit → (moment : ℕ) → Sent → Type 0
IsSenderReportOf who lanes start before visit moment (media p) = ⊥
IsSenderReportOf who lanes start before visit moment (control c) = IsSenderReport who lanes start before visit moment c
IsSenderReportOf who lanes start before visit moment (note n) = ⊥

-- The block's highest number is that of this packet, which went to this owner for the first time, and is among the last
-- 512 of the stream.
pub record IsReached (who : Asker) (lanes : ℕ) (start : Desk) (before : List Step) (lane : ℕ) (block : ReportBlock)
    (owner : Owner) (p : SentPacket) : Type 0 where
  pub number : p.number ≡ block.highest % 2 ^ 16
  pub its_owner : p.owner ≡ owner
  pub sent_before : Contains (firsts who lanes start (record { kind = StreamKind.video; ssrc = block.ssrc }) before)
      (goes block.ssrc None p)
  pub recent : Contains (latest window_size (packets block.ssrc (visits lane start before))) p

-- At this visit a note says what the block of a member says: its losses, and the source packet that it reaches, where
-- there is one.
pub record IsNote (who : Asker) (lanes : ℕ) (start : Desk) (before : List Step) (lane : ℕ) (visit : Visit) (told : Told)
    (n : Notice) : Type 0 where
  pub version : n.version ≡ visit.version
  pub item : n.item ≡ visit.item
  pub from : n.from ≡ told.from
  pub member : ℕ
  pub at : member_from visit.desk told.from ≡ Some member
  pub ssrc : n.note.out_ssrc ≡ told.block.ssrc
  pub fraction : n.note.fraction ≡ told.block.fraction
  pub lost : n.note.lost ≡ told.block.lost
  pub reached : IfSome n.note.source (λ s.
      (p : SentPacket) × ((p.source, p.ext) ≡ s)
      × IsReached who lanes start before lane told.block (record { member = member; address = told.from }) p)
  pub unreached : n.note.source ≡ None → (p : SentPacket)
      → IsReached who lanes start before lane told.block (record { member = member; address = told.from }) p → ⊥

-- What is sent of a block is a note.
abbrev pub IsNoteOf : Asker → ℕ → Desk → List Step → ℕ → Visit → Told → Sent → Type 0
IsNoteOf who lanes start before lane visit told (media p) = ⊥
IsNoteOf who lanes start before lane visit told (control c) = ⊥
IsNoteOf who lanes start before lane visit told (note n) = IsNote who lanes start before lane visit told n

-- At this visit the slot's member tells that it lost the picture, and the source that the slot chose is asked for one:
-- a PLI to the address of the source's member.
pub record IsPassedUp (who : Asker) (visit : Visit) (loss : Loss) (c : ControlPacket) : Type 0 where
  pub version : c.version ≡ visit.version
  pub item : c.item ≡ visit.item
  pub ssrc : c.ssrc ≡ loss.out_ssrc
  pub slot : SlotRow
  pub its_slot : slot_at visit.desk loss.out_ssrc ≡ Some slot
  pub asks : member_from visit.desk loss.from ≡ Some slot.member
  pub source : ℕ
  pub chosen : choice visit.desk loss.out_ssrc ≡ Some source
  pub sender : MemberRow
  pub its_sender : option_and_then (member_at visit.desk) (sender_of visit.desk source) ≡ Some sender
  pub to : c.to ≡ sender.address
  pub bytes : c.bytes ≡ written (upstream_packets who source [] true)

-- What is sent of a lost picture is a PLI that is passed up.
abbrev pub IsPassedUpOf : Asker → Visit → Loss → Sent → Type 0
IsPassedUpOf who visit loss (media p) = ⊥
IsPassedUpOf who visit loss (control c) = IsPassedUp who visit loss c
IsPassedUpOf who visit loss (note n) = ⊥
