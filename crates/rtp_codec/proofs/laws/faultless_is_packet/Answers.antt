use Rattle.rtp_codec.proofs.Faultless.{faultless_is_packet as is_packet}
use Rattle.rtp_codec.proofs.laws.faultless_is_packet.Goals as goal

pub returns : goal.returns
returns c = is_packet
