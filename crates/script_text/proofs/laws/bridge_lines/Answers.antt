use Rattle.script_text.proofs.FirstLineLaws.{bridge_again, bridge_back, first_alone}
use Rattle.script_text.proofs.laws.bridge_lines.Goals as goal

pub returns-clause-read : goal.returns-clause-read
returns-clause-read c = bridge_again

pub returns-clause-spelled : goal.returns-clause-spelled
returns-clause-spelled c = bridge_back

pub returns-clause-first : goal.returns-clause-first
returns-clause-first c = first_alone
