use Rattle.std.proofs.Common.{rules, [], ◌∷◌}
use Rattle.worked_codecs.specs.Packets.{from_101}
use Rattle.worked_codecs.proofs.reading_packets.a_source_and_a_payload.Goals as goal

pub returns : goal.returns
returns c =
    c.read.ensures.only from_101
    (c.written_is_packet.ensures from_101.header (101 ∷ []) (170 ∷ 187 ∷ []) (search rules) (search rules))
