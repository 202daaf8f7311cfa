use Rattle.std.proofs.Common.{length, ap, arith, length-append}
use Rattle.std.specs.Option.{option_map}
use Rattle.rtp_codec.specs.Packet.{number_octets}
use Rattle.rtcp_codec.specs.Packet.{fields, reason_octets}
use Rattle.rtcp_codec.specs.View.{packet_of}
use Rattle.rtcp_codec.specs.declared.packet.Rtcp.{Rtcp}
use Rattle.rtcp_codec.proofs.Lists.{numbers_length}
use Rattle.rtcp_codec.proofs.checking.fields_size.Goals as goal

pub returns-in_ok-reason-in-Bye-clause-size : goal.returns-in_ok-reason-in-Bye-clause-size
returns-in_ok-reason-in-Bye-clause-size g c =
    let e = ap (λ (p : Rtcp g.row.A.Denot). length (fields (packet_of p))) c.in-Bye.is in
    let bye = c.in-Bye.bye in
    omega (
      arith,
      e,
      length-append (number_octets bye.ssrcs.items) (reason_octets (option_map (λ v. v.items) bye.reason)),
      numbers_length bye.ssrcs.items,
      c.in_ok-reason-in-Bye.ensures.size,
    )
