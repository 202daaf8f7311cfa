use Rattle.std.proofs.Common.{arith}
use Rattle.worked_bridge.proofs.SliceOctets.{slice_octets}
use Rattle.worked_bridge.proofs.ingress_laws.octets_are_one_thing.Goals as goal

pub returns : goal.returns
returns c =
    let octets = c.args.octets.now in
    let r = c.datagrams_are_read.ensures octets (slice_octets octets (λ i. omega (arith, c.type_inv.octets i))) in
    (r.0, r.1, λ s is. c.readings_agree.ensures octets s r.0 is r.1)
