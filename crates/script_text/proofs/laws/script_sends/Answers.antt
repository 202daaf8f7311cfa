use Rattle.script_text.proofs.ScriptLaws.{text_told, sends_told}
use Rattle.script_text.proofs.laws.script_sends.Goals as goal

pub returns-clause-text : goal.returns-clause-text
returns-clause-text c = text_told

pub returns-clause-sends : goal.returns-clause-sends
returns-clause-sends c = sends_told
