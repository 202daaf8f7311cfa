-- Cases of a question: what is asked, and the answer that is wanted.
use Rattle.std.specs.Prelude.{◌≡◌, List, [], ◌∷◌}

-- where one of the cases is asked, the answer is the wanted one
abbrev pub Answers : {A B : Type 0} → List (A × B) → A → B → Type 0
Answers [] asked answer = Unit {0}
Answers (c ∷ cs) asked answer = (asked ≡ c.0 → answer ≡ c.1) × Answers cs asked answer
