use Rattle.hex.proofs.HexLemmas.{decode_of-encode_lower}
use Rattle.script_text.proofs.PacketLaws.{hex_spelled}
use Rattle.script_text.proofs.laws.hex_words.Goals as goal

pub returns-clause-read : goal.returns-clause-read
returns-clause-read c = decode_of-encode_lower

pub returns-clause-spelled : goal.returns-clause-spelled
returns-clause-spelled c = hex_spelled
