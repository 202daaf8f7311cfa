-- The log of what was taken in, which exists in proofs alone (own).
use Rattle.std.specs.Prelude.{List, [], ◌∷◌, ◌++◌}
use Rattle.bridge_stats.specs.declared.taken.TakenIn.{TakenIn}
use Rattle.bridge_stats.specs.declared.taken_log.TakenLog.{TakenLog, Nothing, More'}

-- all that was taken in, oldest first
abbrev pub taken_list : TakenLog → List TakenIn
taken_list Nothing = []
taken_list (More' marker before taken) = taken_list before ++ taken.value ∷ []
