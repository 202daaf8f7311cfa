use Rattle.script_text.proofs.ReportLaws.{report_again, report_back}
use Rattle.script_text.proofs.laws.report_lines.Goals as goal

pub returns-clause-read : goal.returns-clause-read
returns-clause-read c = report_again

pub returns-clause-spelled : goal.returns-clause-spelled
returns-clause-spelled c = report_back
