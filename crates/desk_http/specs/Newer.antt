-- Which call of another person came first, by the rows that two calls are about (own).
use Rattle.std.specs.Prelude.{ℕ, ◌==◌, Bool, false, not, ◌&&◌, ◌||◌, if◌then◌else◌, nat_lt, List, [], ◌∷◌, codes}
use Rattle.std.specs.Prelude.{Option, Some, None}
use Rattle.std.specs.List.{list_any, slice_split}
use Rattle.std.specs.Str.{bytes_eq}
use Rattle.desk_http.specs.Readings.{leading_word, behind_first, behind}
use Rattle.desk_http.specs.Versions.{version_of}
use Rattle.desk_http.specs.declared.newer.SeenCall.{SeenCall}

-- the word takes calls back, or does them again
abbrev pub is_turn : List ℕ → Bool
is_turn word = bytes_eq word (codes "undo") || bytes_eq word (codes "redo") || bytes_eq word (codes "revert")

-- the word begins a command about a source: one that it makes or takes away, or its sound
abbrev pub is_of_source : List ℕ → Bool
is_of_source word =
    bytes_eq word (codes "add-source") || bytes_eq word (codes "remove-source") || bytes_eq word (codes "mute")
    || bytes_eq word (codes "unmute")

-- the word begins a command about a member: one that it makes, moves or takes away
abbrev pub is_of_member : List ℕ → Bool
is_of_member word =
    bytes_eq word (codes "add-member") || bytes_eq word (codes "move-member") || bytes_eq word (codes "remove-member")

-- the word begins a command about a slot, or about what the slot shows
abbrev pub is_of_slot : List ℕ → Bool
is_of_slot word =
    bytes_eq word (codes "add-slot") || bytes_eq word (codes "remove-slot") || bytes_eq word (codes "subscribe")
    || bytes_eq word (codes "unsubscribe")

-- what a command with this first word is about of a room: the room, its pin or its floor; nothing of another word
abbrev pub room_subject : List ℕ → List ℕ
room_subject word =
    if bytes_eq word (codes "add-room") || bytes_eq word (codes "remove-room") then codes "room"
    else if bytes_eq word (codes "pin") || bytes_eq word (codes "unpin") then codes "pin"
    else if bytes_eq word (codes "give-floor") || bytes_eq word (codes "take-floor") then codes "floor"
    else codes ""

-- what kind of row a command with this first word is about; nothing of a word that is no command
abbrev pub subject_of : List ℕ → List ℕ
subject_of word =
    if is_of_source word then codes "source"
    else if is_of_member word then codes "member"
    else if is_of_slot word then codes "slot"
    else if bytes_eq word (codes "set-gain") then codes "gain"
    else room_subject word

-- what kind of row the second word names of a command that brings something there
abbrev pub holder_of : List ℕ → List ℕ
holder_of word =
    if bytes_eq word (codes "add-member") || bytes_eq word (codes "move-member") then codes "room"
    else if bytes_eq word (codes "add-source") || bytes_eq word (codes "add-slot") then codes "member"
    else codes ""

-- the first word of a text, if there is one
abbrev pub leading_or_none : Option (List ℕ) → List ℕ
leading_or_none None = codes ""
leading_or_none (Some text) = leading_word text

-- a word of a command by its number, or nothing
abbrev pub named_word : ℕ → List ℕ → List ℕ
named_word at command = leading_or_none (behind at command)

-- two commands about this kind of row name the same one: a gain has a member and a source, any other row a number
abbrev pub names_same : List ℕ → List ℕ → List ℕ → Bool
names_same subject command other =
    bytes_eq (named_word 1 command) (named_word 1 other)
    && (not (bytes_eq subject (codes "gain")) || bytes_eq (named_word 2 command) (named_word 2 other))

-- the other command is about the row that this one is about
abbrev pub is_same_row : List ℕ → List ℕ → Bool
is_same_row command other =
    not (bytes_eq (subject_of (leading_word command)) (codes ""))
    && bytes_eq (subject_of (leading_word command)) (subject_of (leading_word other))
    && names_same (subject_of (leading_word command)) command other

-- the other command brings something to the row that this one is about
abbrev pub is_brought_to : List ℕ → List ℕ → Bool
is_brought_to command other =
    not (bytes_eq (holder_of (leading_word other)) (codes ""))
    && bytes_eq (subject_of (leading_word command)) (holder_of (leading_word other))
    && bytes_eq (named_word 1 command) (named_word 2 other)

-- the other command touches the row that this one is about
abbrev pub is_touched : List ℕ → List ℕ → Bool
is_touched command other = is_same_row command other || is_brought_to command other

-- the parts of a call: what stands between slashes (47)
abbrev pub parts_of : List ℕ → List (List ℕ)
parts_of call = slice_split (λ b. b == 47) call

-- the text, or another one where there is none
abbrev pub text_or : List ℕ → Option (List ℕ) → List ℕ
text_or otherwise None = otherwise
text_or otherwise (Some text) = text

-- the command of a part, behind the word `group` or the space that stands in front of it
abbrev pub command_of : List ℕ → List ℕ
command_of part =
    if bytes_eq (leading_word part) (codes "group") || bytes_eq (leading_word part) (codes "")
    then text_or part (behind_first part) else part

-- one of these parts touches the row that a command is about
abbrev pub is_touched_by : List (List ℕ) → List ℕ → Bool
is_touched_by parts command = list_any (λ part. is_touched command (command_of part)) parts

-- one of those parts touches a row that one of these is about
abbrev pub are_touched_by : List (List ℕ) → List (List ℕ) → Bool
are_touched_by others parts = list_any (λ part. is_touched_by others (command_of part)) parts

-- Another call touches a row that this line is about. One that takes calls back touches any row. A line that takes
-- calls back is about none: the bridge itself refuses it where another call came first.
abbrev pub meets : List ℕ → List ℕ → Bool
meets line call =
    not (is_turn (leading_word line))
    && (is_turn (leading_word call) || are_touched_by (parts_of call) (parts_of line))

-- the number is there, and a later one
abbrev pub is_after : ℕ → Option ℕ → Bool
is_after seen None = false
is_after seen (Some number) = nat_lt seen number

-- the call of a line of the log touches a row of this line
abbrev pub meets_logged : List ℕ → Option (List ℕ) → Bool
meets_logged line None = false
meets_logged line (Some call) = meets line call

-- a line of the log, `call NO MOMENT OP NAME CALL`, was given after this version by somebody else
abbrev pub is_others_since : ℕ → List ℕ → List ℕ → Bool
is_others_since seen person logged =
    bytes_eq (leading_word logged) (codes "call") && is_after seen (version_of (named_word 1 logged))
    && not (bytes_eq (named_word 4 logged) person)

-- that call touches a row which the line is about
abbrev pub is_newer : SeenCall → List ℕ → Bool
is_newer call logged =
    is_others_since call.seen call.person.now logged && meets_logged call.line.now (behind 5 logged)

-- the first such line of the log
abbrev pub newer_call : SeenCall → List (List ℕ) → Option (List ℕ)
newer_call call [] = None
newer_call call (logged ∷ log) = if is_newer call logged then Some logged else newer_call call log
