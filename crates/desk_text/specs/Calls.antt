-- The lines of calls (own): the tables of their first words, and of what the values behind each are in a call.
use Rattle.std.specs.Prelude.{◌≡◌, ℕ, ◌+◌, ◌==◌, Bool, List, [], ◌∷◌, ◌++◌, map, length}
use Rattle.std.specs.Prelude.{nat_lt, codes, Option, Some, None, Result, Ok, Err, if◌then◌else◌}
use Rattle.std.specs.List.{find, join_with_byte, slice_split}
use Rattle.std.specs.Str.{bytes_eq}
use Rattle.desk_rows.specs.declared.row.Row.{Row}
use Rattle.desk_rows.specs.declared.row.Row.TheVariants as rows
use Rattle.desk_rows.specs.declared.key.Kind.{Kind}
use Rattle.desk_rows.specs.declared.key.Kind.TheVariants as kinds
use Rattle.desk_rows.specs.Values.{row_values, row_with}
use Rattle.desk_edit.specs.Asked.{CallOf}
use Rattle.desk_edit.specs.Asked.CallOf.{Apply, Group, Undo, Redo, Revert}
use Rattle.desk_edit.specs.declared.command.Command.{Command}
use Rattle.desk_edit.specs.declared.command.Command.TheVariants.{AddRoom, RemoveRoom, AddMember, RemoveMember}
use Rattle.desk_edit.specs.declared.command.Command.TheVariants.{MoveMember, AddSource, RemoveSource, AddSlot}
use Rattle.desk_edit.specs.declared.command.Command.TheVariants.{RemoveSlot, Subscribe, Unsubscribe, SetGain}
use Rattle.desk_edit.specs.declared.command.Command.TheVariants.{Mute, Unmute, Pin, Unpin}
use Rattle.desk_edit.specs.declared.command.Command.TheVariants.{GiveFloor, TakeFloor}
use Rattle.desk_text.specs.declared.fault.Fault.{Fault}
use Rattle.desk_text.specs.declared.fault.Fault.TheVariants.{LineTooLong, UnknownWord}
use Rattle.desk_text.specs.declared.value.Field.{Field}
use Rattle.desk_text.specs.declared.value.Field.TheVariants as fields
use Rattle.desk_text.specs.declared.value.Value.{Value}
use Rattle.desk_text.specs.declared.value.Value.TheVariants.{U32, U64}
use Rattle.desk_text.specs.declared.name.Name.{Name}
use Rattle.desk_text.specs.declared.name.Name.TheVariants as names
use Rattle.desk_text.specs.declared.name.Head.{Head}
use Rattle.desk_text.specs.declared.name.Head.TheVariants as heads
use Rattle.desk_text.specs.Lines.{line_limit}
use Rattle.desk_text.specs.Words.{◌>>=◌, words_of, word_at, none_left, value_or}
use Rattle.desk_text.specs.Values.{field_of, of_row, in_row, value_text, values_of, Fits, AllFit, number_at}

-- ---- commands

-- how the name of a command is written
abbrev pub name_text : Name → List ℕ
name_text names.AddRoom = codes "add-room"
name_text names.RemoveRoom = codes "remove-room"
name_text names.AddMember = codes "add-member"
name_text names.RemoveMember = codes "remove-member"
name_text names.MoveMember = codes "move-member"
name_text names.AddSource = codes "add-source"
name_text names.RemoveSource = codes "remove-source"
name_text names.AddSlot = codes "add-slot"
name_text names.RemoveSlot = codes "remove-slot"
name_text names.Subscribe = codes "subscribe"
name_text names.Unsubscribe = codes "unsubscribe"
name_text names.SetGain = codes "set-gain"
name_text names.Mute = codes "mute"
name_text names.Unmute = codes "unmute"
name_text names.Pin = codes "pin"
name_text names.Unpin = codes "unpin"
name_text names.GiveFloor = codes "give-floor"
name_text names.TakeFloor = codes "take-floor"

-- the names of commands that set what is heard and seen
abbrev pub setting_names : List Name
setting_names =
    names.Subscribe
    ∷ names.Unsubscribe
    ∷ names.SetGain
    ∷ names.Mute
    ∷ names.Unmute
    ∷ names.Pin
    ∷ names.Unpin
    ∷ names.GiveFloor
    ∷ names.TakeFloor
    ∷ []

-- all names
abbrev pub all_names : List Name
all_names =
    names.AddRoom
    ∷ names.RemoveRoom
    ∷ names.AddMember
    ∷ names.RemoveMember
    ∷ names.MoveMember
    ∷ names.AddSource
    ∷ names.RemoveSource
    ∷ names.AddSlot
    ∷ names.RemoveSlot
    ∷ setting_names

-- a name with values behind it
pub record Spelt : Type 0 where
  pub name : Name
  pub values : List Value

-- the values of a row, as the words of the command that puts it say them
abbrev pub row_fields : Row → List Value
row_fields r = map of_row (row_values r)

-- what the words of a command say
abbrev pub fields_of : Command → Spelt
fields_of (AddRoom r) = record { name = names.AddRoom; values = row_fields (rows.Room r) }
fields_of (RemoveRoom room) = record { name = names.RemoveRoom; values = U32 room ∷ [] }
fields_of (AddMember m) = record { name = names.AddMember; values = row_fields (rows.Member m) }
fields_of (RemoveMember member) = record { name = names.RemoveMember; values = U32 member ∷ [] }
fields_of (MoveMember member room) = record { name = names.MoveMember; values = U32 member ∷ U32 room ∷ [] }
fields_of (AddSource s) = record { name = names.AddSource; values = row_fields (rows.Source s) }
fields_of (RemoveSource ssrc) = record { name = names.RemoveSource; values = U32 ssrc ∷ [] }
fields_of (AddSlot s) = record { name = names.AddSlot; values = row_fields (rows.Slot s) }
fields_of (RemoveSlot out_ssrc) = record { name = names.RemoveSlot; values = U32 out_ssrc ∷ [] }
fields_of (Subscribe s) = record { name = names.Subscribe; values = row_fields (rows.Sub s) }
fields_of (Unsubscribe out_ssrc) = record { name = names.Unsubscribe; values = U32 out_ssrc ∷ [] }
fields_of (SetGain g) = record { name = names.SetGain; values = row_fields (rows.Gain g) }
fields_of (Mute m) = record { name = names.Mute; values = row_fields (rows.Mute m) }
fields_of (Unmute source) = record { name = names.Unmute; values = U32 source ∷ [] }
fields_of (Pin p) = record { name = names.Pin; values = row_fields (rows.Pin p) }
fields_of (Unpin room) = record { name = names.Unpin; values = U32 room ∷ [] }
fields_of (GiveFloor f) = record { name = names.GiveFloor; values = row_fields (rows.Floor f) }
fields_of (TakeFloor room) = record { name = names.TakeFloor; values = U32 room ∷ [] }

-- the command that puts a row
abbrev pub putting : Row → Command
putting (rows.Room r) = AddRoom r
putting (rows.Member m) = AddMember m
putting (rows.Source s) = AddSource s
putting (rows.Slot s) = AddSlot s
putting (rows.Sub s) = Subscribe s
putting (rows.Mute m) = Mute m
putting (rows.Gain g) = SetGain g
putting (rows.Pin p) = Pin p
putting (rows.Floor f) = GiveFloor f

-- the command that puts a row of a kind with these values
abbrev pub put_with : Kind → List Value → Command
put_with kind vs = putting (row_with kind (map in_row vs))

-- the command of a name with values of its fields
abbrev pub command_with : Name → List Value → Command
command_with names.AddRoom vs = put_with kinds.Room vs
command_with names.RemoveRoom vs = RemoveRoom (number_at 0 vs)
command_with names.AddMember vs = put_with kinds.Member vs
command_with names.RemoveMember vs = RemoveMember (number_at 0 vs)
command_with names.MoveMember vs = MoveMember (number_at 0 vs) (number_at 1 vs)
command_with names.AddSource vs = put_with kinds.Source vs
command_with names.RemoveSource vs = RemoveSource (number_at 0 vs)
command_with names.AddSlot vs = put_with kinds.Slot vs
command_with names.RemoveSlot vs = RemoveSlot (number_at 0 vs)
command_with names.Subscribe vs = put_with kinds.Sub vs
command_with names.Unsubscribe vs = Unsubscribe (number_at 0 vs)
command_with names.SetGain vs = put_with kinds.Gain vs
command_with names.Mute vs = put_with kinds.Mute vs
command_with names.Unmute vs = Unmute (number_at 0 vs)
command_with names.Pin vs = put_with kinds.Pin vs
command_with names.Unpin vs = Unpin (number_at 0 vs)
command_with names.GiveFloor vs = put_with kinds.Floor vs
command_with names.TakeFloor vs = TakeFloor (number_at 0 vs)

-- the fields behind a name: those of the values of its command, whatever they are
abbrev pub shape_of : Name → List Field
shape_of name = map field_of (fields_of (command_with name [])).values

-- the name that a word is
abbrev pub name_of : List ℕ → Option Name
name_of word = find (λ name. bytes_eq word (name_text name)) all_names

-- the one of these settings that a word is
abbrev pub setting_of : List ℕ → Option Name
setting_of word = find (λ name. bytes_eq word (name_text name)) setting_names

-- the words behind a name, with the rate of a room that names none
abbrev pub with_rate : Name → List (List ℕ) → List (List ℕ)
with_rate names.AddRoom (room ∷ []) = room ∷ codes "8000" ∷ []
with_rate name words = words

-- the command that words spell, of which the first stands at this place on the line
unfoldable pub command_of : ℕ → List (List ℕ) → Result Command (ℕ × Fault)
command_of place words = do
  word ← word_at place words
  name ← value_or place UnknownWord (name_of word.0)
  read ← values_of (place + 1) (shape_of name) (with_rate name word.1)
  end ← none_left (place + 1 + length (shape_of name)) read.1
  Ok (command_with name read.0)

-- the words of a command
abbrev pub command_words : Command → List (List ℕ)
command_words command = name_text (fields_of command).name ∷ map value_text (fields_of command).values

-- words spell a command: its name, and its values behind it, where a room's rate of 8000 Hz may be left out
abbrev pub SpellCommand : List (List ℕ) → Command → Type 0
SpellCommand words command =
    (behind : List (List ℕ)) × (words ≡ name_text (fields_of command).name ∷ behind)
    × (with_rate (fields_of command).name behind ≡ map value_text (fields_of command).values)

-- the numbers of a command are in range
abbrev pub IsCommand : Command → Type 0
IsCommand command = AllFit (fields_of command).values

-- ---- groups

-- the word that stands between the commands of a group
abbrev pub slash : List ℕ
slash = codes "/"

-- a word is this one
abbrev pub is_slash : List ℕ → Bool
is_slash word = bytes_eq word slash

-- the commands that the parts of a group spell, or the first fault: the first part begins at this place on the line,
-- each other one behind a `/`
unfoldable pub commands_of : ℕ → List (List (List ℕ)) → Result (List Command) (ℕ × Fault)
commands_of place [] = Ok []
commands_of place (part ∷ parts) = do
  command ← command_of place part
  commands ← commands_of (place + length part + 1) parts
  Ok (command ∷ commands)

-- the words of a group's commands
abbrev pub group_words : List Command → List (List ℕ)
group_words [] = []
group_words (command ∷ []) = command_words command
group_words (command ∷ next ∷ commands) = command_words command ++ slash ∷ group_words (next ∷ commands)

-- the parts of a group spell its commands, one after another
abbrev pub SpellCommands : List (List (List ℕ)) → List Command → Type 0
SpellCommands [] [] = Unit {0}
SpellCommands (part ∷ parts) (command ∷ commands) = SpellCommand part command × SpellCommands parts commands
SpellCommands [] (command ∷ commands) = ⊥
SpellCommands (part ∷ parts) [] = ⊥

-- the numbers of all commands are in range
abbrev pub AreCommands : List Command → Type 0
AreCommands [] = Unit {0}
AreCommands (command ∷ commands) = IsCommand command × AreCommands commands

-- ---- calls

-- how a call begins that is no single command
abbrev pub head_text : Head → List ℕ
head_text heads.Undo = codes "undo"
head_text heads.Redo = codes "redo"
head_text heads.Revert = codes "revert"
head_text heads.Group = codes "group"

-- all of these
abbrev pub all_heads : List Head
all_heads = heads.Undo ∷ heads.Redo ∷ heads.Revert ∷ heads.Group ∷ []

-- the one that a word is
abbrev pub head_of : List ℕ → Option Head
head_of word = find (λ head. bytes_eq word (head_text head)) all_heads

-- the number of a call that words spell from this place on, where no other word is left
unfoldable pub last_of : ℕ → List (List ℕ) → Result ℕ (ℕ × Fault)
last_of place words = do
  read ← values_of place (fields.U64 ∷ []) words
  end ← none_left (place + 1) read.1
  Ok (number_at 0 read.0)

-- what a call that begins so asks, with these words behind its first, which stands at this place
unfoldable pub headed : Head → ℕ → List (List ℕ) → Result CallOf (ℕ × Fault)
headed heads.Undo place behind = do
  last ← last_of (place + 1) behind
  Ok (Undo last)
headed heads.Redo place behind = do
  last ← last_of (place + 1) behind
  Ok (Redo last)
headed heads.Revert place behind = do
  number ← last_of (place + 1) behind
  Ok (Revert number)
headed heads.Group place behind = do
  commands ← commands_of (place + 1) (slice_split is_slash behind)
  Ok (Group commands)

-- what words ask that are one command, of which the first stands at this place
unfoldable pub single : ℕ → List (List ℕ) → Result CallOf (ℕ × Fault)
single place words = do
  command ← command_of place words
  Ok (Apply command)

-- the call of words, by how they begin
abbrev pub call_by : Option Head → ℕ → (words behind : List (List ℕ)) → Result CallOf (ℕ × Fault)
call_by None place words behind = single place words
call_by (Some head) place words behind = headed head place behind

-- the call that words spell, of which `base` words stand before them on the line
unfoldable pub call_of : ℕ → List (List ℕ) → Result CallOf (ℕ × Fault)
call_of base words = do
  word ← word_at (base + 1) words
  call_by (head_of word.0) (base + 1) words word.1

-- the words of a call
abbrev pub call_words : CallOf → List (List ℕ)
call_words (Apply command) = command_words command
call_words (Group commands) = head_text heads.Group ∷ group_words commands
call_words (Undo last) = head_text heads.Undo ∷ value_text (U64 last) ∷ []
call_words (Redo last) = head_text heads.Redo ∷ value_text (U64 last) ∷ []
call_words (Revert number) = head_text heads.Revert ∷ value_text (U64 number) ∷ []

-- words spell a call: they are its words, where a room's rate of 8000 Hz may be left out
abbrev pub SpellCall : List (List ℕ) → CallOf → Type 0
SpellCall words (Apply command) = SpellCommand words command
SpellCall words (Group commands) =
    (behind : List (List ℕ)) × (words ≡ head_text heads.Group ∷ behind)
    × SpellCommands (slice_split is_slash behind) commands
SpellCall words (Undo last) = words ≡ call_words (Undo last)
SpellCall words (Redo last) = words ≡ call_words (Redo last)
SpellCall words (Revert number) = words ≡ call_words (Revert number)

-- the line of a call: its words with spaces (32) between them
abbrev pub call_line : CallOf → List ℕ
call_line call = join_with_byte 32 (call_words call)

-- the numbers of a call are in range, and a group has a command at least
abbrev pub IsCall : CallOf → Type 0
IsCall (Apply command) = IsCommand command
IsCall (Group []) = ⊥
IsCall (Group (command ∷ commands)) = AreCommands (command ∷ commands)
IsCall (Undo last) = Fits (U64 last)
IsCall (Redo last) = Fits (U64 last)
IsCall (Revert number) = Fits (U64 number)

-- the words of a text that is a call and nothing else: the empty text has none
abbrev pub spoken_words : List ℕ → List (List ℕ)
spoken_words text = if length text == 0 then [] else words_of text

-- the call that a text is; place 0 is the whole text
abbrev pub spoken_call : List ℕ → Result CallOf (ℕ × Fault)
spoken_call text = if nat_lt line_limit (length text) then Err (0, LineTooLong) else call_of 0 (spoken_words text)
