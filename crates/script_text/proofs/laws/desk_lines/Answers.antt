use Rattle.script_text.proofs.DeskLaws.{desk_again, desk_back}
use Rattle.script_text.proofs.laws.desk_lines.Goals as goal

pub returns-clause-read : goal.returns-clause-read
returns-clause-read c = desk_again

pub returns-clause-spelled : goal.returns-clause-spelled
returns-clause-spelled c = desk_back
