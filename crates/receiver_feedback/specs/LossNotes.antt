-- What a receiver's report block says of an outgoing stream (RFC 3550 section 6.4.1; which packet of a source it leads
-- back to is own).
use Rattle.std.specs.Prelude.{◌%◌, ◌^◌, List}
use Rattle.std.specs.Option.{option_map}
use Rattle.rtcp_codec.specs.declared.report.ReportBlock.{ReportBlock}
use Rattle.retransmit.specs.declared.owner.Owner.{Owner}
use Rattle.retransmit.specs.SentPacket.{SentPacket}
use Rattle.retransmit.specs.Window.{resend_of}
use Rattle.receiver_feedback.specs.declared.noting.LossNote.{LossNote}

-- what a block from this owner says: its losses, and which packet of which source went to the owner under the block's
-- highest number, if that is among the stream's last
abbrev pub note_of : ReportBlock → Owner → List SentPacket → LossNote
note_of block owner window = record {
  out_ssrc = block.ssrc;
  fraction = block.fraction;
  lost = block.lost;
  source = option_map (λ p. (p.source, p.ext)) (resend_of (block.highest % 2 ^ 16) owner window);
}
