-- Of the packets of a compound, those that aren't read yet are the rest.
use Rattle.std.proofs.Common.{List, length}
use Rattle.rtcp_codec.specs.Packet.{Packet}
use Rattle.rtcp_codec.specs.Compound.{IsCompound}
use Rattle.rtcp_codec.specs.View.{packets_of}
use Rattle.rtcp_codec.proofs.Compounds.{AreLeft}
use Rattle.rtcp_codec.proofs.reading.packets_from.Given as goal

abbrev pub invariant-loop-rest : goal.invariant-loop-rest
invariant-loop-rest g l = (ps : List Packet) → IsCompound ps l.octets → AreLeft ps (packets_of l.packets.items) l.rest

abbrev pub decreases-loop-rest : goal.decreases-loop-rest
decreases-loop-rest g l = length l.rest
