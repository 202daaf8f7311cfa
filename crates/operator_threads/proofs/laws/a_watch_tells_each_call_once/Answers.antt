use Rattle.operator_threads.proofs.WatchLemmas.{was_told}
use Rattle.operator_threads.proofs.laws.a_watch_tells_each_call_once.Goals as goal

pub returns : goal.returns
returns c start publisher asked told old new done is few = was_told start publisher asked told old new done is few
