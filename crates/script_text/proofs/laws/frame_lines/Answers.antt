use Rattle.script_text.proofs.FrameLaws.{frame_again, frame_back}
use Rattle.script_text.proofs.laws.frame_lines.Goals as goal

pub returns-clause-read : goal.returns-clause-read
returns-clause-read c = frame_again

pub returns-clause-spelled : goal.returns-clause-spelled
returns-clause-spelled c = frame_back
