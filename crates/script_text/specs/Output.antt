-- The output function: what a script's octets give (own).
use Rattle.std.specs.Prelude.{◌≡◌, ℕ, ◌+◌, List, [], ◌∷◌, ◌++◌, Option, Some, None, Result, Ok, Err}
use Rattle.std.specs.Io.KnownBytes.{Appends, Consumes, IsAtEnd}
use Rattle.desk_text.specs.declared.fault.Fault.{Fault}
use Rattle.desk_text.specs.Lines.{lines_of, ended_lines}
use Rattle.script_text.specs.declared.fault.RunFault.{RunFault}
use Rattle.script_text.specs.declared.fault.RunFault.TheVariants as errors
use Rattle.script_text.specs.Requests.{Request}
use Rattle.script_text.specs.FirstLine.{request_at}
use Rattle.script_text.specs.Decodings.{Decoding}
use Rattle.script_text.specs.Bridge.{Bridge, opening_bridge, answer_text, bridge_after}

-- the text that is written, and the fault that ends it, if any: its line, the place of its word, and what it is
pub record RunOutput : Type 0 where
  pub text : List ℕ
  pub fault : Option (ℕ × ℕ × Fault)

-- nothing is written, and all went well
abbrev pub nothing : RunOutput
nothing = record { text = []; fault = None }

-- this text first
abbrev pub told : List ℕ → RunOutput → RunOutput
told text outcome = record { text = text ++ outcome.text; fault = outcome.fault }

-- a fault
abbrev pub stopped : ℕ → ℕ → Fault → RunOutput
stopped line word fault = record { text = []; fault = Some (line, word, fault) }

-- a line that is read is answered, and the others go on; one with a fault ends the script
abbrev pub continues : ℕ → Bridge → Result Request (ℕ × Fault) → (Bridge → RunOutput) → RunOutput
continues number bridge (Err e) others = stopped number e.0 e.1
continues number bridge (Ok request) others = told (answer_text bridge request) (others (bridge_after bridge request))

-- what lines give, from this bridge on and with the first of them under this number
unfoldable pub outcome_of : Bridge → ℕ → List (List ℕ) → RunOutput
outcome_of bridge number [] = nothing
outcome_of bridge number (line ∷ lines) =
    continues number bridge (request_at number line) (λ b. outcome_of b (number + 1) lines)

-- what a script gives
abbrev pub output_of : Decoding → List ℕ → RunOutput
output_of decoding input = outcome_of (opening_bridge decoding) 1 (lines_of input)

-- what the lines of a text give that have ended
abbrev pub ended_output_of : Decoding → List ℕ → RunOutput
ended_output_of decoding input = outcome_of (opening_bridge decoding) 1 (ended_lines input)

-- the text begins so
abbrev pub IsPrefixOf : List ℕ → List ℕ → Type 0
IsPrefixOf front all = (rest : List ℕ) × (all ≡ front ++ rest)

-- the text begins so, and goes on
abbrev pub IsCutOf : List ℕ → List ℕ → Type 0
IsCutOf front all = (next : ℕ) × (rest : List ℕ) × (all ≡ front ++ next ∷ rest)

-- what a run over this input leaves: what the reader still has, and what the writer held before and holds now
abbrev pub RunEnds : Decoding → List ℕ → Option (List ℕ) → Option (List ℕ) → Option (List ℕ)
    → Result (Unit {0}) RunFault
    → Type 0
RunEnds decoding input left before now (Ok u) =
    IsAtEnd left × ((output_of decoding input).fault ≡ None) × Appends before now (output_of decoding input).text
RunEnds decoding input left before now (Err (errors.Script line word fault)) =
    ((output_of decoding input).fault ≡ Some (line, word, fault)) × Appends before now (output_of decoding input).text
RunEnds decoding input left before now (Err errors.Write) =
    (sent : List ℕ) × IsCutOf sent (output_of decoding input).text × Appends before now sent
RunEnds decoding input left before now (Err errors.Read) =
    (seen : List ℕ) × Consumes (Some input) left seen × ((ended_output_of decoding seen).fault ≡ None)
    × Appends before now (ended_output_of decoding seen).text
RunEnds decoding input left before now (Err errors.OutOfMemory) =
    (seen : List ℕ) × Consumes (Some input) left seen × (front : List ℕ) × IsPrefixOf front seen
    × ((ended_output_of decoding front).fault ≡ None) × Appends before now (ended_output_of decoding front).text
