use Rattle.script_text.proofs.WaitLaws.{wait_again, wait_back}
use Rattle.script_text.proofs.laws.wait_lines.Goals as goal

pub returns-clause-read : goal.returns-clause-read
returns-clause-read c = wait_again

pub returns-clause-spelled : goal.returns-clause-spelled
returns-clause-spelled c = wait_back
