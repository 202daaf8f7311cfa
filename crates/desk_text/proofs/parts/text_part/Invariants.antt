use Rattle.std.proofs.Common.{◌-◌, length}
use Rattle.desk_text.proofs.PartLemmas.{Walks}
use Rattle.desk_text.proofs.parts.text_part.Given as goal

abbrev pub invariant-loop-word : goal.invariant-loop-word
invariant-loop-word l = Walks l.text l.count l.at

abbrev pub decreases-loop-word : goal.decreases-loop-word
decreases-loop-word l = length l.text - l.at
