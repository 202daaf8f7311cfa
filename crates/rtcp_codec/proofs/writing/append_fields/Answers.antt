use Rattle.std.proofs.Common.{◌++◌, List, sym, ap, ◌∙◌}
use Rattle.std.specs.List.{flat_map}
use Rattle.rtcp_codec.specs.declared.packet.Rtcp.{Rtcp}
use Rattle.rtcp_codec.specs.declared.report.ReportBlock.{ReportBlock}
use Rattle.rtcp_codec.specs.Packet.{fields}
use Rattle.rtcp_codec.specs.Report.{block_octets}
use Rattle.rtcp_codec.specs.View.{packet_of}
use Rattle.rtcp_codec.proofs.WrittenLemmas.{appended}
use Rattle.rtcp_codec.proofs.writing.append_fields.Goals as goal

pub returns-in-Sender-clause-items : goal.returns-in-Sender-clause-items
returns-in-Sender-clause-items g c =
    let front = c.sender_array.result in
    let blocks = c.deref.result.now in
    appended c.args.out.now.items front c.append.new.out.items (flat_map block_octets blocks)
    (fields (packet_of c.args.packet.now)) c.append_blocks.new.out.items c.append.ensures.items
    c.append_blocks.ensures.items
    (ap (λ (l : List ReportBlock). front ++ flat_map block_octets l) c.deref.ensures.value
    ∙ c.sender_array.ensures.octets
    ∙ ap (λ (p : Rtcp g.row.A.Denot). fields (packet_of p)) (sym c.in-Sender.is))
