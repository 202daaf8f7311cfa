-- What a lane sends, as a function of all its items, in their order, and of who the bridge is (RFC 7667 sections 3.6.1
-- and 3.6.2; the order of what is sent is own).
use Rattle.std.specs.Prelude.{ℕ, Bool, true, List, [], ◌∷◌, ◌++◌, length}
use Rattle.std.specs.Prelude.{map, filter, drop, Option, None, Some, option_map}
use Rattle.std.specs.List.{flat_map, filter_map}
use Rattle.desk_rows.specs.declared.row.Slot.{Slot as SlotRow}
use Rattle.desk_rows.specs.Desk.{Desk}
use Rattle.retransmit.specs.declared.owner.Owner.{Owner}
use Rattle.retransmit.specs.SentPacket.{SentPacket}
use Rattle.retransmit.specs.Window.{window_size, latest}
use Rattle.topology.specs.declared.receivers.Receiver.{Receiver}
use Rattle.topology.specs.Receivers.{receivers, receiver_on}
use Rattle.media_items.specs.Frame.{SourceFrame}
use Rattle.forward_rewrite.specs.Sending.{Sending}
use Rattle.forward_rewrite.specs.RoutedList.{packets_of}
use Rattle.forward_rewrite.specs.Streams.{StreamOf, state_of}
use Rattle.receiver_feedback.specs.Resends.{resends}
use Rattle.media_items.specs.OwnStreams.{is_mine}
use Rattle.mixer.specs.Hearing.{Given}
use Rattle.mixer.specs.Mixes.{MixSent, sent_by}
use Rattle.media_items.specs.Inputs.{Input}
use Rattle.rtp_codec.specs.declared.address.Address.{Address}
use Rattle.rtcp_codec.specs.Compound.{written}
use Rattle.desk_rows.specs.declared.row.Member.{Member as MemberRow}
use Rattle.topology.specs.Looking.{member_from}
use Rattle.topology.specs.Receivers.{slots_to}
use Rattle.forward_rewrite.specs.declared.counts.Counts.{Counts}
use Rattle.forward_rewrite.specs.Streams.{counts_of}
use Rattle.mixer.specs.Mixes.{turns, counts_of as mix_counts_of}
use Rattle.sender_feedback.specs.Upstream.{Asker, upstream_packets}
use Rattle.receiver_feedback.specs.PassedUp.{pli_up}
use Rattle.receiver_feedback.specs.SenderReports.{sender_packets}
use Rattle.receiver_feedback.specs.LossNotes.{note_of}
use Rattle.media_items.specs.Inputs.{Told, Loss}
use Rattle.media_items.specs.Inputs.Input.{frame, audio, tick, nack, block, pli, report, renew}
use Rattle.bridge_core.specs.Sent.{Sent, about}
use Rattle.bridge_core.specs.Sent.Sent.{media, control, note}

-- an item that a lane handles: under which version, as which of the lane's items from 1, with the desk of that version
pub record Visit : Type 0 where
  pub version : ℕ
  pub item : ℕ
  pub desk : Desk
  pub input : Input

-- a frame that a stream sends, and the slot by which it does
pub record Routed : Type 0 where
  pub slot : SlotRow
  pub sending : Sending

-- who gets what goes to a receiver: its slot's member, at its address
abbrev pub owner_of : Receiver → Owner
owner_of r = record { member = r.slot.member; address = r.address }

-- a frame for a receiver: by its slot, to its member at its address, by the version and as the item of the visit
abbrev pub routed_to : Visit → SourceFrame → Receiver → Routed
routed_to visit f r = record {
  slot = r.slot;
  sending = record { frame = f; version = visit.version; item = visit.item; owner = owner_of r };
}

-- what an input brings to a stream: a frame where the desk has the stream's slot, this chose the frame's source, and
-- the source's member has the frame's address
abbrev pub routed_of : ℕ → Visit → Input → Option Routed
routed_of ssrc visit (frame f) = option_map (routed_to visit f) (receiver_on visit.desk f.source f.address ssrc)
routed_of ssrc visit (audio sound) = None
routed_of ssrc visit (tick moment) = None
routed_of ssrc visit (nack request) = None
routed_of ssrc visit (block told) = None
routed_of ssrc visit (pli loss) = None
routed_of ssrc visit (report moment) = None
routed_of ssrc visit renew = None

-- what a visit brings to a stream
abbrev pub routed_at : ℕ → Visit → Option Routed
routed_at ssrc visit = routed_of ssrc visit visit.input

-- the routed list of a stream
abbrev pub routed : ℕ → List Visit → List Routed
routed ssrc visits = filter_map (routed_at ssrc) visits

-- the frames of a routed list
abbrev pub sendings : List Routed → List Sending
sendings rs = map (λ r. r.sending) rs

-- all packets of a routed list: the stream begins with the first frame, and takes its first number and timestamp from
-- the slot row of then
abbrev pub packets_sent : ℕ → List Routed → List SentPacket
packets_sent ssrc [] = []
packets_sent ssrc (r ∷ rs) = packets_of ssrc r.slot.first_seq r.slot.first_ts (sendings (r ∷ rs))

-- the stream after a routed list, if it has begun
abbrev pub stream_of : ℕ → List Routed → Option StreamOf
stream_of ssrc [] = None
stream_of ssrc (r ∷ rs) = Some (state_of ssrc r.slot.first_seq r.slot.first_ts (sendings (r ∷ rs)))

-- all packets of a stream
abbrev pub packets : ℕ → List Visit → List SentPacket
packets ssrc visits = packets_sent ssrc (routed ssrc visits)

-- the packets of a stream that an item adds
abbrev pub packets_at : ℕ → List Visit → Visit → List SentPacket
packets_at ssrc before visit = drop (length (packets ssrc before)) (packets ssrc (before ++ visit ∷ []))

-- a packet of a stream as it goes to its owner, and by which version again
abbrev pub goes : ℕ → Option ℕ → SentPacket → Sent
goes ssrc resent_by p = media record {
  version = p.version;
  item = p.item;
  to = p.owner.address;
  ssrc = ssrc;
  number = p.number;
  bytes = p.bytes;
  resent_by = resent_by;
}

-- what an input gives the mixer: sound its samples, whatever the desk says, a tick the desk of its version, and that
-- buffers begin anew from here on
abbrev pub given_by : Desk → Input → Option Given
given_by desk (frame f) = None
given_by desk (audio sound) = Some (Given.put sound.source sound.address sound.rate sound.ts sound.samples)
given_by desk (tick moment) = Some (Given.tick desk moment)
given_by desk (nack request) = None
given_by desk (block told) = None
given_by desk (pli loss) = None
given_by desk (report moment) = None
given_by desk renew = Some Given.renew

-- what a visit gives the mixer
abbrev pub given_at : Visit → Option Given
given_at visit = given_by visit.desk visit.input

-- all that visits give the mixer
abbrev pub given_of : List Visit → List Given
given_of visits = filter_map given_at visits

-- a packet of a mix as it goes to its member, by the version and as the item of the visit
abbrev pub mix_goes : Visit → MixSent → Sent
mix_goes visit p = media record {
  version = visit.version;
  item = visit.item;
  to = p.to;
  ssrc = p.ssrc;
  number = p.packet.number;
  bytes = p.packet.bytes;
  resent_by = None;
}

-- ---- RTCP

-- a compound for a stream, by the version and as the item of the visit
abbrev pub controls : Visit → (ssrc : ℕ) → Address → List ℕ → Sent
controls visit ssrc to bytes =
    control record { version = visit.version; item = visit.item; to = to; ssrc = ssrc; bytes = bytes }

-- a lost picture that is passed on: a PLI to that address about that source
abbrev pub passed_up : Asker → Visit → Loss → Option (Address × ℕ) → List Sent
passed_up who visit loss None = []
passed_up who visit loss (Some up) =
    controls visit loss.out_ssrc up.0 (written (upstream_packets who up.1 [] true)) ∷ []

-- what a member reports of a stream, as the items before leave it, if it has begun
abbrev pub notes : Visit → Told → Option ℕ → Option StreamOf → List Sent
notes visit told None stream = []
notes visit told (Some member) None = []
notes visit told (Some member) (Some stream) =
    note record {
      version = visit.version;
      item = visit.item;
      from = told.from;
      note = note_of told.block (record { member = member; address = told.from }) stream.window;
    } ∷ []

-- what a sender report says of a video stream, if it has begun
abbrev pub video_counts : ℕ → List Routed → Option Counts
video_counts ssrc [] = None
video_counts ssrc (r ∷ rs) = counts_of ssrc r.slot.first_ts (sendings (r ∷ rs))

-- a stream's sender report of a moment, to a member
abbrev pub tells : Asker → Visit → (moment : ℕ) → MemberRow → (ssrc : ℕ) → Option Counts → List Sent
tells who visit moment m ssrc None = []
tells who visit moment m ssrc (Some counts) =
    controls visit ssrc m.address (written (sender_packets counts moment who.cname)) ∷ []

-- the sender reports to a member: of its mix, then of its slots' streams
abbrev pub reports_to : Asker → List Visit → Visit → (moment : ℕ) → MemberRow → List Sent
reports_to who before visit moment m =
    tells who visit moment m m.out_audio (mix_counts_of m.out_audio (turns m.out_audio (given_of before)))
    ++ flat_map (λ s. tells who visit moment m s.out_ssrc (video_counts s.out_ssrc (routed s.out_ssrc before)))
    (slots_to visit.desk m.member)

-- ---- all that is sent

-- what is sent of an input, after the items before it
abbrev pub sent_of_input : Asker → List Visit → Visit → Input → List Sent
-- a frame: to each of its receivers its packets, by place and index
sent_of_input who before visit (frame f) =
    flat_map (λ r. map (goes r.slot.out_ssrc None) (packets_at r.slot.out_ssrc before visit))
    (receivers visit.desk f.source f.address)
-- sound: nothing, before the next tick
sent_of_input who before visit (audio sound) = []
-- a tick: to each member what it hears, by place
sent_of_input who before visit (tick moment) = map (mix_goes visit) (sent_by (given_of before) visit.desk moment)
-- numbers that are asked for again: the member who asks gets those of the stream's last 512 packets that it was sent
sent_of_input who before visit (nack request) =
    map (goes request.out_ssrc (Some visit.version))
    (resends visit.desk request.from request.numbers (latest window_size (packets request.out_ssrc before)))
-- a report block: what its member reports of the stream, which is sent to nobody
sent_of_input who before visit (block told) =
    notes visit told (member_from visit.desk told.from) (stream_of told.block.ssrc (routed told.block.ssrc before))
-- a lost picture: a PLI to the member of the source that the slot chose
sent_of_input who before visit (pli loss) = passed_up who visit loss (pli_up visit.desk loss.from loss.out_ssrc)
-- a report: to each member the sender reports of its streams, by place
sent_of_input who before visit (report moment) = flat_map (reports_to who before visit moment) visit.desk.members
-- that buffers begin anew from here on: nothing
sent_of_input who before visit renew = []

-- it is about one of the lane's streams
abbrev pub is_lanes : ℕ → ℕ → Sent → Bool
is_lanes lane lanes sent = is_mine lane lanes (about sent)

-- what a lane sends at a visit, after those before it: of what is sent of the input, all that is about its own streams
abbrev pub sends_at : Asker → ℕ → ℕ → List Visit → Visit → List Sent
sends_at who lane lanes before visit = filter (is_lanes lane lanes) (sent_of_input who before visit visit.input)
