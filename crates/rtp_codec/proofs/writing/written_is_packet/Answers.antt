use Rattle.rtp_codec.proofs.PacketLemmas.{written_is_packet as is_packet}
use Rattle.rtp_codec.proofs.writing.written_is_packet.Goals as goal

pub returns : goal.returns
returns c = is_packet
