use Rattle.script_text.proofs.HeardLaws.{scripts_heard}
use Rattle.script_text.proofs.laws.scripts_are_heard.Goals as goal

pub returns : goal.returns
returns c = scripts_heard c.datagrams_are_heard.ensures
