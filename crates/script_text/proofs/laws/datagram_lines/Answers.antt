use Rattle.script_text.proofs.RxLaws.{rx_again, rx_back}
use Rattle.script_text.proofs.laws.datagram_lines.Goals as goal

pub returns-clause-read : goal.returns-clause-read
returns-clause-read c = rx_again

pub returns-clause-spelled : goal.returns-clause-spelled
returns-clause-spelled c = rx_back
