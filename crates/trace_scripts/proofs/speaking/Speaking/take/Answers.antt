use Rattle.trace_scripts.proofs.ScriptLemmas.{nothing_told, both_told}
use Rattle.trace_scripts.proofs.speaking.Speaking.take.Goals as goal

pub loop-done-init : goal.loop-done-init
loop-done-init g c = nothing_told _

-- one more deed was told, or none had come
pub returns-then-not-branch : goal.returns-then-not-branch
returns-then-not-branch g c = record { tells = both_told _ _ _ c.loop-done.invariant c.in_ok-take_next.ensures.tells }

pub loop-done-preserved : goal.loop-done-preserved
loop-done-preserved g c = both_told _ _ _ c.loop-done.invariant c.in_ok-take_next.ensures.tells
