-- What `help` tells (own).
use Rattle.std.specs.Prelude.{ℕ, List, [], ◌∷◌, ◌++◌, codes, Option, Some, None}
use Rattle.std.specs.List.{flat_map}
use Rattle.desk_edit.specs.Told.{told_of}
use Rattle.desk_edit.specs.declared.refusal.Refusal.{Refusal}
use Rattle.desk_text.specs.declared.value.Value.TheVariants.{U16}
use Rattle.desk_text.specs.Text.{line_text, fixed, value}
use Rattle.operator_lines.specs.Advice.{refusal_advice}
use Rattle.operator_lines.specs.Forms.{form_of, places_of, blames_of, example_of, all_topics, form_word_text}
use Rattle.operator_lines.specs.declared.form_word.FormWord.{FormWord}
use Rattle.operator_lines.specs.declared.topic.Topic.{Topic}

-- the line of a form
abbrev pub form_line : Topic → List ℕ
form_line topic = line_text (fixed (form_of topic) ∷ [])

-- the line of what a word is
abbrev pub place_line : FormWord → List ℕ
place_line place = line_text (fixed (form_word_text place) ∷ [])

-- the line of a refusal: its number, its name, and what to do
abbrev pub refusal_line : Refusal → List ℕ
refusal_line refusal =
    line_text
    (fixed (codes "refused")
    ∷ value (U16 (told_of refusal).number)
    ∷ fixed (told_of refusal).name
    ∷ fixed (refusal_advice refusal)
    ∷ [])

-- the line of a refusal of a call
abbrev pub blame_line : Refusal × ℕ → List ℕ
blame_line b = refusal_line b.0

-- the line of an example
abbrev pub example_line : Topic → List ℕ
example_line topic = line_text (fixed (codes "example") ∷ fixed (example_of topic) ∷ [])

-- the last line
abbrev pub last_line : List ℕ
last_line = codes "end\n"

-- the form of each line; or of one line its form, its words, its refusals and an example; and last a line that says so
abbrev pub help_text : Option Topic → List ℕ
help_text None = flat_map form_line all_topics ++ last_line
help_text (Some topic) =
    (((form_line topic ++ flat_map place_line (places_of topic)) ++ flat_map blame_line (blames_of topic))
    ++ example_line topic)
    ++ last_line
