use Rattle.std.proofs.Common.{arith}
use Rattle.worked_bridge.proofs.SliceOctets.{slice_octets}
use Rattle.worked_bridge.proofs.script_laws.a_datagram_is_heard.Goals as goal

pub returns : goal.returns
returns c =
    let one = c.datagrams_are_heard.ensures in
    let octets = c.args.octets.now in
    (one.0, one.1 octets (slice_octets octets (λ i. omega (arith, c.type_inv.octets i))))
