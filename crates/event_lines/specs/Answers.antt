-- The log of a budget, which exists in proofs alone (own).
use Rattle.std.specs.Prelude.{List, [], ◌∷◌, ◌++◌}
use Rattle.event_lines.specs.declared.answered.Answered.{Answered, Nothing, Wrote', Left', Told'}
use Rattle.event_lines.specs.Lines.{LineAnswer, wrote, left, told}

-- all that was answered, oldest first
abbrev pub answer_list : Answered → List LineAnswer
answer_list Nothing = []
answer_list (Wrote' marker before moment) = answer_list before ++ wrote moment.value ∷ []
answer_list (Left' marker before events) = answer_list before ++ left events.value ∷ []
answer_list (Told' marker before moment events) = answer_list before ++ told moment.value events.value ∷ []
