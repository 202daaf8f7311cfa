use Rattle.std.proofs.Common.{rules, []}
use Rattle.worked_codecs.specs.Packets.{greatest}
use Rattle.worked_codecs.proofs.reading_packets.a_header_alone.Goals as goal

pub returns : goal.returns
returns c =
    c.read.ensures.only greatest (c.written_is_packet.ensures greatest.header [] [] (search rules) (search rules))
