-- The words of calls, one after another.
use Rattle.std.proofs.Common.{◌≡◌, ℕ, List, [], ◌∷◌, ◌++◌, map, refl, sym, ap, ◌∙◌, append_assoc, codes}
use Rattle.std.specs.List.{flat_map, join_with_byte}
use Rattle.std.proofs.lemmas.List.{append-nil}
use Rattle.std.specs.declared.vec.Vec.{Vec}
use Rattle.desk_rows.specs.declared.values.RowValue.{RowValue}
use Rattle.desk_edit.specs.declared.command.Command.{Command}
use Rattle.desk_edit.specs.Asked.CallOf.{Group}
use Rattle.desk_text.specs.Values.{value_text, of_row}
use Rattle.desk_text.specs.Calls.{name_text, fields_of, command_words, group_words, call_line}
use Rattle.call_history.specs.AcceptedCall.{AcceptedOf}
use Rattle.call_history.specs.Stamp.{StampedOf}
use Rattle.desk_text.specs.GroupsText.{lists_in, group_line}
use Rattle.desk_text.specs.HistoryText.{made_line}
use Rattle.desk_text.specs.StampedText.{stamped_line}
use Rattle.desk_text.specs.inner.Pieces.{next_value, command_line, other_part, parts_behind, head_of, number_rest}
use Rattle.desk_text.specs.inner.Pieces.{line_of_group}

-- words, each with a space before it
abbrev behind : List (List ℕ) → List ℕ
behind words = flat_map (λ word. 32 ∷ word) words

-- a line is its first word and the others behind it
joined : (word : List ℕ) (words : List (List ℕ)) → join_with_byte 32 (word ∷ words) ≡ word ++ behind words
joined word [] = sym (append-nil word)
joined word (next ∷ words) = ap (λ (t : List ℕ). word ++ 32 ∷ t) (joined next words)

behind_both : (xs ys : List (List ℕ)) → behind (xs ++ ys) ≡ behind xs ++ behind ys
behind_both [] ys = refl
behind_both (x ∷ xs) ys =
    ap (λ (t : List ℕ). (32 ∷ x) ++ t) (behind_both xs ys) ∙ sym (append_assoc (32 ∷ x) (behind xs) (behind ys))

behind_values : (vs : List RowValue) → behind (map value_text (map of_row vs)) ≡ flat_map next_value vs
behind_values [] = refl
behind_values (v ∷ vs) = ap (λ (t : List ℕ). next_value v ++ t) (behind_values vs)

-- the words of a command are its name and its values
pub command_joined : (command : Command) (vs : List RowValue) → map of_row vs ≡ (fields_of command).values
    → name_text (fields_of command).name ++ flat_map next_value vs ≡ command_line command
command_joined command vs same =
    let name = name_text (fields_of command).name in
    ap (λ (t : List ℕ). name ++ t) (sym (behind_values vs))
    ∙ (ap (λ ws. name ++ behind (map value_text ws)) same
    ∙ sym (joined name (map value_text (fields_of command).values)))

-- the words of a command, with a space before each
command_behind : (command : Command) → behind (command_words command) ≡ 32 ∷ command_line command
command_behind command =
    ap (λ (t : List ℕ). 32 ∷ t)
    (sym (joined (name_text (fields_of command).name) (map value_text (fields_of command).values)))

parts_joined : (command : Command) (commands : List Command)
    → behind (group_words (command ∷ commands)) ≡ (32 ∷ command_line command) ++ flat_map other_part commands
parts_joined command [] = command_behind command ∙ sym (append-nil (32 ∷ command_line command))
parts_joined command (next ∷ commands) =
    behind_both (command_words command) (codes "/" ∷ group_words (next ∷ commands))
    ∙ (ap (λ (t : List ℕ). t ++ (32 ∷ 47 ∷ behind (group_words (next ∷ commands)))) (command_behind command)
    ∙ ap (λ (t : List ℕ). (32 ∷ command_line command) ++ (32 ∷ 47 ∷ t)) (parts_joined next commands))

-- the words of a group are its first word and its commands
pub group_joined : (commands : List Command) → codes "group" ++ parts_behind commands ≡ call_line (Group commands)
group_joined [] = refl
group_joined (command ∷ commands) =
    ap (λ (t : List ℕ). codes "group" ++ t) (sym (parts_joined command commands))
    ∙ sym (joined (codes "group") (group_words (command ∷ commands)))

-- the two pieces of the line of an accepted call
pub made_joined : (m : AcceptedOf) → head_of m ++ (call_line m.call ++ 10 ∷ []) ≡ made_line m
made_joined m = simp append_assoc refl

-- the two pieces of the line of an accepted call with its stamp
pub stamped_joined : (s : StampedOf) → codes "call " ++ number_rest s ≡ stamped_line s
stamped_joined s = simp append_assoc refl

-- the lines of groups, as the code holds them, are those of their commands
pub groups_listed : {A : Type 0} (groups : List (Vec Command A))
    → flat_map line_of_group groups ≡ flat_map group_line (lists_in groups)
groups_listed {A} [] = refl
groups_listed {A} (group ∷ groups) = ap (λ (t : List ℕ). line_of_group group ++ t) (groups_listed groups)

-- the line of these commands is that of a group that has them
pub same_group : {A : Type 0} (commands : List Command) (v w : Vec Command A) → commands ≡ v.items → v ≡ w
    → group_line commands ≡ line_of_group w
same_group {A} commands v w items is = ap group_line (items ∙ ap (λ (x : Vec Command A). x.items) is)
