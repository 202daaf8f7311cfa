-- What the parser holds of a group.
use Rattle.std.specs.Prelude.{◌≡◌, ℕ, ◌+◌, List, [], ◌∷◌, ◌++◌, Option, Some, None, Result, Ok, Err}
use Rattle.std.specs.Borrow.{Bor}
use Rattle.std.specs.List.{slice_split}
use Rattle.desk_edit.specs.declared.command.Command.{Command}
use Rattle.desk_text.specs.declared.fault.ParseFault.{ParseFault}
use Rattle.desk_text.specs.Words.{Fails, words_in, size_of}
use Rattle.desk_text.specs.Calls.{is_slash, command_of}

-- the parts that are left of a group: none, or those of the words that are left
abbrev pub parts_in : Option (Option (Bor (List ℕ))) → List (List (List ℕ))
parts_in None = []
parts_in (Some words) = slice_split is_slash (words_in words)

-- how many octets are left of them, the `/` before them and a space included
abbrev pub size_of_parts : Option (Option (Bor (List ℕ))) → ℕ
size_of_parts None = 0
size_of_parts (Some words) = size_of words + 2

-- the command that the words at this place spell stands behind the others, or its fault was told
abbrev pub TakesCommand : ℕ → List (List ℕ) → List Command → List Command → Result (Unit {0}) ParseFault → Type 0
TakesCommand place words old new (Ok u) =
    (command : Command) × (command_of place words ≡ Ok command) × (new ≡ old ++ command ∷ [])
TakesCommand place words old new (Err e) = Fails e (command_of place words)
