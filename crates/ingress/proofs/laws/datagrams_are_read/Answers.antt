use Rattle.ingress.proofs.Readable.{has_reading}
use Rattle.ingress.proofs.laws.datagrams_are_read.Goals as goal

pub returns : goal.returns
returns c = has_reading c.faultless_is_packet.ensures c.compound_or_fault.ensures
