use Rattle.bridge_stats.proofs.DropLemmas.{add_up}
use Rattle.bridge_stats.proofs.laws.causes_add_up.Goals as goal

pub returns : goal.returns
returns c = add_up
