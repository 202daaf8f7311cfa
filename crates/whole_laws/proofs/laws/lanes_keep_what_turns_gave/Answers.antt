use Rattle.whole_laws.proofs.KeptLemmas.{turns_keep}
use Rattle.whole_laws.proofs.laws.lanes_keep_what_turns_gave.Goals as goal

pub returns : goal.returns
returns g c = turns_keep
