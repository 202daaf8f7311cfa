use Rattle.std.proofs.Common.{arith, ◌≡◌, sym, subst}
use Rattle.rtp_codec.specs.Packet.{IsPacket, plain, written}
use Rattle.worked_codecs.proofs.reading_packets.what_was_written_reads_back.Goals as goal

pub returns : goal.returns
returns c =
    let header = c.args.header.now in
    let csrcs = c.args.csrcs.now in
    let payload = c.args.payload.now in
    let w : IsPacket (plain header csrcs payload) (written header csrcs payload) =
    grind (arith, c.write.ensures.reads, c.ok.ensures.value, c.in_ok-ok.was) in
    let same : c.deref.result.now ≡ written header csrcs payload =
    grind (arith, c.write.ensures.ok, c.requires.out, c.deref.ensures.value, c.ok.ensures.value, c.in_ok-ok.was) in
    let read =
    c.read.ensures.only (plain header csrcs payload) (subst (IsPacket (plain header csrcs payload)) (sym same) w) in
    grind (arith, read, c.ok-2.ensures.value)
