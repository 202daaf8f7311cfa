-- How groups of commands are told (own).
use Rattle.std.specs.Prelude.{ℕ, List, [], ◌∷◌, ◌++◌, map}
use Rattle.std.specs.List.{flat_map}
use Rattle.std.specs.declared.vec.Vec.{Vec}
use Rattle.desk_edit.specs.declared.command.Command.{Command}
use Rattle.desk_edit.specs.Asked.CallOf.{Group}
use Rattle.desk_text.specs.Calls.{call_line}
use Rattle.desk_text.specs.HistoryText.{end_line}

-- groups as the code holds them
abbrev pub lists_in : {A : Type 0} → List (Vec Command A) → List (List Command)
lists_in groups = map (λ group. group.items) groups

-- the line of a group, with an LF (10)
abbrev pub group_line : List Command → List ℕ
group_line commands = call_line (Group commands) ++ 10 ∷ []

-- these groups, a line for each, and last the version
abbrev pub groups_text : List (List Command) → (version : ℕ) → List ℕ
groups_text groups version = flat_map group_line groups ++ end_line version
