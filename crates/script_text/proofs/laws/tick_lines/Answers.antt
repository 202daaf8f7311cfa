use Rattle.script_text.proofs.TickLaws.{tick_again, tick_back}
use Rattle.script_text.proofs.laws.tick_lines.Goals as goal

pub returns-clause-read : goal.returns-clause-read
returns-clause-read c = tick_again

pub returns-clause-spelled : goal.returns-clause-spelled
returns-clause-spelled c = tick_back
