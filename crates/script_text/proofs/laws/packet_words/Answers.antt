use Rattle.script_text.proofs.PacketLaws.{packet_read, packet_spelled}
use Rattle.script_text.proofs.laws.packet_words.Goals as goal

pub returns-clause-read : goal.returns-clause-read
returns-clause-read c = packet_read

pub returns-clause-spelled : goal.returns-clause-spelled
returns-clause-spelled c = packet_spelled
