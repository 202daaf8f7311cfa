use Rattle.script_text.proofs.HeardLaws.{datagrams_heard}
use Rattle.script_text.proofs.laws.datagrams_are_heard.Goals as goal

pub returns : goal.returns
returns c = datagrams_heard c.voices_are_there.ensures c.datagrams_are_read.ensures
