-- How accepted calls are told: those that are in force, and those that can be redone (own).
use Rattle.std.specs.Prelude.{ℕ, List, [], ◌∷◌, ◌++◌, codes, decimal}
use Rattle.std.specs.List.{flat_map}
use Rattle.desk_text.specs.Calls.{call_line}
use Rattle.call_history.specs.AcceptedCall.{AcceptedOf}

-- an accepted call's operator, and the words of the call
abbrev pub said_by : AcceptedOf → List ℕ
said_by m = decimal m.op ++ codes " " ++ call_line m.call

-- the line of a script that an accepted call has, with an LF
abbrev pub called_line : AcceptedOf → List ℕ
called_line m = codes "desk " ++ said_by m ++ codes "\n"

-- the line of an accepted call: its number, its operator, the words of the call, and an LF
abbrev pub made_line : AcceptedOf → List ℕ
made_line m = decimal m.number ++ codes " " ++ said_by m ++ codes "\n"

-- the lines of calls that can be redone, if there are any, behind one that says so
abbrev pub undone_text : List AcceptedOf → List ℕ
undone_text [] = []
undone_text (m ∷ ms) = codes "undone\n" ++ flat_map made_line (m ∷ ms)

-- the last line: the version
abbrev pub end_line : ℕ → List ℕ
end_line version = codes "end " ++ decimal version ++ codes "\n"

-- the calls that are in force, oldest first, those that can be redone, the one undone last at the end, and the version
abbrev pub history_text : (done undone : List AcceptedOf) → (version : ℕ) → List ℕ
history_text done undone version = flat_map made_line done ++ undone_text undone ++ end_line version
