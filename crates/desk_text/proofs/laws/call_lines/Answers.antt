use Rattle.desk_text.proofs.CallLaws.{line_again, call_again, call_back}
use Rattle.desk_text.proofs.laws.call_lines.Goals as goal

pub returns-clause-read : goal.returns-clause-read
returns-clause-read c = line_again

pub returns-clause-spelling : goal.returns-clause-spelling
returns-clause-spelling c = call_again 0

pub returns-clause-spelled : goal.returns-clause-spelled
returns-clause-spelled c = call_back 0
