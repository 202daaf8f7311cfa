-- The length stands in the header once the body is there.
use Rattle.std.proofs.Common.{◌≡◌, ◌+◌, ◌-◌, ◌/◌, ◌∙◌, length, get_or, refl, arith}
use Rattle.rtcp_codec.specs.Description.{filled}
use Rattle.rtcp_codec.specs.Packet.{fields}
use Rattle.rtcp_codec.specs.View.{packet_of}
use Rattle.rtcp_codec.proofs.WrittenLemmas.{headed}
use Rattle.rtcp_codec.proofs.writing.append_packet.Goals as goal

pub returns-clause-items : goal.returns-clause-items
returns-clause-items g c =
    let body = filled (fields (packet_of c.args.packet.now)) in
    let octets = c.to_be_bytes.result in
    let start = c.len-start.result in
    let words : (c.len.result - start - 4) / 4 ≡ length body / 4 = omega arith in
    rw (c.put-2.ensures.items, c.put.ensures.items, c.append_body.ensures.items, c.append.ensures.items)
    (headed c.args.out.now.items body (128 + c.count_of.result) c.type_of.result (get_or octets 0 0) (get_or octets 1 0)
    start (omega arith)
    ∙ rw (c.count_of.ensures.value, c.type_of.ensures, c.to_be_bytes.ensures, words) refl)
