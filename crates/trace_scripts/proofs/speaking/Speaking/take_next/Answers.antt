use Rattle.trace_scripts.proofs.ScriptLemmas.{nothing_told}
use Rattle.trace_scripts.proofs.speaking.Speaking.take_next.Goals as goal

-- nothing had come
pub returns-in_default : goal.returns-in_default
returns-in_default g c = record { tells = rw c.in_default.ensures.none (nothing_told _) }
