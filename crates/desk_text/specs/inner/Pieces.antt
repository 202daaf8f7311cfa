-- The pieces in which lines are appended.
use Rattle.std.specs.Prelude.{ℕ, List, [], ◌∷◌, ◌++◌, codes, decimal}
use Rattle.std.specs.List.{flat_map, join_with_byte}
use Rattle.std.specs.declared.vec.Vec.{Vec}
use Rattle.desk_rows.specs.declared.values.RowValue.{RowValue}
use Rattle.desk_edit.specs.declared.command.Command.{Command}
use Rattle.desk_text.specs.Values.{value_text, of_row}
use Rattle.desk_text.specs.Calls.{command_words, call_line}
use Rattle.call_history.specs.AcceptedCall.{AcceptedOf}
use Rattle.call_history.specs.Stamp.{StampedOf}
use Rattle.desk_text.specs.GroupsText.{group_line}
use Rattle.desk_text.specs.HistoryText.{made_line, undone_text}

-- a value of a row, with a space (32) before it
abbrev pub next_value : RowValue → List ℕ
next_value v = 32 ∷ value_text (of_row v)

-- the words of a command
abbrev pub command_line : Command → List ℕ
command_line command = join_with_byte 32 (command_words command)

-- a command of a group that is not the first
abbrev pub other_part : Command → List ℕ
other_part command = codes " / " ++ command_line command

-- the commands of a group, behind its first word
abbrev pub parts_behind : List Command → List ℕ
parts_behind [] = []
parts_behind (command ∷ commands) = (codes " " ++ command_line command) ++ flat_map other_part commands

-- the number of an accepted call and its operator, each with a space behind it
abbrev pub head_of : AcceptedOf → List ℕ
head_of m = (decimal m.number ++ codes " ") ++ (decimal m.op ++ codes " ")

-- the lines of calls that are in force, and of those that can be redone
abbrev pub lists_text : (done undone : List AcceptedOf) → List ℕ
lists_text done undone = flat_map made_line done ++ undone_text undone

-- the name of an accepted call, with a space behind it
abbrev pub name_part : StampedOf → List ℕ
name_part s = s.stamp.name ++ codes " "

-- the line of an accepted call with its stamp, from the name on
abbrev pub named_rest : StampedOf → List ℕ
named_rest s = name_part s ++ (call_line s.made.call ++ 10 ∷ [])

-- the same, from the operator on
abbrev pub op_rest : StampedOf → List ℕ
op_rest s = (decimal s.made.op ++ codes " ") ++ named_rest s

-- the same, from the moment on
abbrev pub moment_rest : StampedOf → List ℕ
moment_rest s = (decimal s.stamp.moment ++ codes " ") ++ op_rest s

-- the same, from the number on
abbrev pub number_rest : StampedOf → List ℕ
number_rest s = (decimal s.made.number ++ codes " ") ++ moment_rest s

-- the line of a group, as the code holds it
abbrev pub line_of_group : {A : Type 0} → Vec Command A → List ℕ
line_of_group group = group_line group.items
