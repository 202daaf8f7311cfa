-- What `why` tells of a line that was faulty or refused (own).
use Rattle.std.specs.Prelude.{ℕ, ◌-◌, Bool, true, false, ◌&&◌, nat_eq, nat_lt, List, [], ◌∷◌, ◌++◌, codes, drop}
use Rattle.std.specs.Prelude.{Option, Some, None, Result, Ok, Err, is_none, slice_get, if◌then◌else◌}
use Rattle.std.specs.List.{find}
use Rattle.rtp_codec.specs.declared.address.Address.{Address}
use Rattle.desk_rows.specs.Desk.{Desk, member_at_address}
use Rattle.desk_rows.specs.Getters.{member_at, slot_at}
use Rattle.desk_rows.specs.declared.row.Member.{Member}
use Rattle.desk_edit.specs.Asked.{CallOf}
use Rattle.desk_edit.specs.Asked.CallOf.{Apply, Group, Undo, Redo, Revert}
use Rattle.desk_edit.specs.Reasons.{refusal_for}
use Rattle.desk_edit.specs.Told.{told_of}
use Rattle.desk_edit.specs.declared.command.Command.{Command}
use Rattle.desk_edit.specs.declared.command.Command.TheVariants.{AddMember, AddSlot}
use Rattle.desk_edit.specs.declared.refusal.Refusal.{Refusal}
use Rattle.desk_edit.specs.declared.refusal.Refusal.TheVariants.{Exists, PartRefused, Conflict}
use Rattle.desk_text.specs.declared.fault.Fault.{Fault}
use Rattle.desk_text.specs.declared.name.Head.TheVariants as heads
use Rattle.desk_text.specs.declared.value.Value.TheVariants.{U32, U64, Address as AddressValue}
use Rattle.desk_text.specs.Calls.{spoken_call}
use Rattle.desk_text.specs.Text.{line_text, fixed, value, fault_text}
use Rattle.desk_text.specs.Words.{words_of}
use Rattle.operator_lines.specs.Advice.{fault_advice, refusal_advice}
use Rattle.operator_lines.specs.Forms.{blames_of, places_of, form_word_text}
use Rattle.operator_lines.specs.Help.{last_line, refusal_line}
use Rattle.operator_lines.specs.Topics.{topic_of}
use Rattle.operator_lines.specs.declared.form_word.FormWord.{FormWord}
use Rattle.operator_lines.specs.declared.form_word.FormWord.TheVariants as form_words
use Rattle.operator_lines.specs.declared.topic.Topic.{Topic}
use Rattle.operator_lines.specs.declared.topic.Topic.TheVariants as topics
use Rattle.operator_lines.specs.declared.trouble.Wrong.{Wrong}
use Rattle.operator_lines.specs.declared.trouble.Wrong.TheVariants.{Faulty, Refused, Taken, Closed}

-- a line, and what was wrong with it
pub record TroubleOf : Type 0 where
  pub line : List ℕ
  pub wrong : Wrong

-- ---- which word

-- the first of some words, or this where there is none
abbrev pub first_or : List ℕ → List (List ℕ) → List ℕ
first_or otherwise [] = otherwise
first_or otherwise (word ∷ words) = word

-- the word behind so many others, or a `-`
abbrev pub word_behind : ℕ → List ℕ → List ℕ
word_behind count line = first_or (codes "-") (drop count (words_of line))

-- what a line is, by its first word
abbrev pub topic_at : List ℕ → Option Topic
topic_at line = topic_of (word_behind 0 line)

-- the command that a line is, if it is one alone
abbrev pub command_from : Result CallOf (ℕ × Fault) → Option Command
command_from (Ok (Apply command)) = Some command
command_from (Ok (Group commands)) = None
command_from (Ok (Undo last)) = None
command_from (Ok (Redo last)) = None
command_from (Ok (Revert number)) = None
command_from (Err fault) = None

-- the number that a command adds is free: it is refused by its address, or its index
abbrev pub is_free : Desk → Option Command → Bool
is_free rows (Some (AddMember m)) = is_none (member_at rows m.member)
is_free rows (Some (AddSlot s)) = is_none (slot_at rows s.out_ssrc)
is_free rows _ = false

-- the word of an address or an index: both stand at place 4
abbrev pub other_word : ℕ
other_word = 4

-- the place of the word that a refusal is about, or 0
abbrev pub blamed_by : Option (Refusal × ℕ) → ℕ
blamed_by None = 0
blamed_by (Some b) = b.1

-- a refusal of a line has this number
abbrev pub has_number : (number : ℕ) → Refusal × ℕ → Bool
has_number number b = nat_eq (told_of b.0).number number

-- the refusal of a line that begins so, among those that `help` tells
abbrev pub blame_in : Option Topic → Refusal → Option (Refusal × ℕ)
blame_in None refusal = None
blame_in (Some topic) refusal = find (has_number (told_of refusal).number) (blames_of topic)

-- it exists
abbrev pub is_exists : Refusal → Bool
is_exists Exists = true
is_exists _ = false

-- the place of the word that is wrong, from 1; 0 is none
abbrev pub wrong_word : (is_free : Bool) → List ℕ → Wrong → ℕ
wrong_word is_free line (Faulty word fault) = word
wrong_word is_free line (Refused refusal) =
    if is_free && is_exists refusal then other_word else blamed_by (blame_in (topic_at line) refusal)
wrong_word is_free line Taken = 0
wrong_word is_free line Closed = 0

-- ---- what may stand there

-- the words behind `group` are commands
abbrev pub place_at : Topic → ℕ → Option FormWord
place_at (topics.Head heads.Group) behind = Some form_words.Commands
place_at topic behind = slice_get (places_of topic) behind

-- what may stand at a place: as the words of the line say, or nothing
abbrev pub stands_at : Option FormWord → List ℕ
stands_at (Some place) = form_word_text place
stands_at None = codes "nothing: the line ends before it"

-- at a line's first word, and behind the first word of such a line
abbrev pub meant_at : Option Topic → (place : ℕ) → List ℕ
meant_at None place = codes "the first word of a line: `help` tells all of them"
meant_at (Some topic) place =
    if nat_lt place 2 then codes "the first word of a line: `help` tells all of them"
    else stands_at (place_at topic (place - 2))

-- the line of the word that is wrong, and of what may stand there
abbrev pub word_line : List ℕ → ℕ → List ℕ
word_line line place =
    line_text
    (fixed (codes "word")
    ∷ value (U64 place)
    ∷ fixed (word_behind (place - 1) line)
    ∷ fixed (meant_at (topic_at line) place)
    ∷ [])

-- the same, where a word is wrong
abbrev pub word_lines : List ℕ → ℕ → List ℕ
word_lines line place = if nat_eq place 0 then [] else word_line line place

-- ---- what the desk has

-- the line of the member that has an address
abbrev pub holder_line : Option Member → Address → List ℕ
holder_line None address = []
holder_line (Some m) address =
    line_text (fixed (codes "member") ∷ value (U32 m.member) ∷ fixed (codes "has") ∷ value (AddressValue address) ∷ [])

-- the line of the member that has the address of one that is added
abbrev pub holder_lines : Desk → Option Command → List ℕ
holder_lines rows (Some (AddMember m)) = holder_line (member_at_address rows m.address) m.address
holder_lines rows _ = []

-- the line of the number of the last accepted call, which an undo and a redo name
abbrev pub last_lines : Option Topic → (version : ℕ) → List ℕ
last_lines (Some (topics.Head heads.Undo)) version = line_text (fixed (codes "last") ∷ value (U64 version) ∷ [])
last_lines (Some (topics.Head heads.Redo)) version = line_text (fixed (codes "last") ∷ value (U64 version) ∷ [])
last_lines _ version = []

-- ---- what was told

-- the line of a fault, and what to do
abbrev pub fault_advice_line : Fault → List ℕ
fault_advice_line fault = line_text (fixed (codes "fault") ∷ fixed (fault_text fault) ∷ fixed (fault_advice fault) ∷ [])

-- the line of the refusal or the fault, and what to do
abbrev pub told_lines : Wrong → List ℕ
told_lines (Faulty word fault) = fault_advice_line fault
told_lines (Refused refusal) = refusal_line refusal
told_lines Taken = codes "refused 22 LogTaken the log is another bridge's: start the bridge anew\n"
told_lines Closed =
    codes "refused 27 Closed the lease has ended: only its holder may call, till a new one or `lease off`\n"

-- the line of the command of a group that is refused, or of the call that stands in the way; commands count from 0
abbrev pub part_lines : Wrong → List ℕ
part_lines (Refused (PartRefused part why)) = line_text (fixed (codes "part") ∷ value (U32 part) ∷ [])
part_lines (Refused (Conflict call part why)) =
    line_text (fixed (codes "call") ∷ value (U64 call) ∷ fixed (codes "part") ∷ value (U32 part) ∷ [])
part_lines _ = []

-- the line of the reason against that command, and what to do
abbrev pub reason_lines : Wrong → List ℕ
reason_lines (Refused (PartRefused part why)) = refusal_line (refusal_for why)
reason_lines (Refused (Conflict call part why)) = refusal_line (refusal_for why)
reason_lines _ = []

-- the line itself
abbrev pub said_line : List ℕ → List ℕ
said_line line = line_text (fixed (codes "line") ∷ fixed line ∷ [])

-- what was wrong with a line: the line, the word and what may stand there, what the desk has by now, and what to do
abbrev pub trouble_lines : Desk → (version : ℕ) → Option Command → TroubleOf → List ℕ
trouble_lines rows version command t =
    (((((said_line t.line ++ word_lines t.line (wrong_word (is_free rows command) t.line t.wrong))
    ++ holder_lines rows command)
    ++ last_lines (topic_at t.line) version)
    ++ told_lines t.wrong)
    ++ part_lines t.wrong)
    ++ reason_lines t.wrong

-- the same of the last line that was faulty or refused, if there is one; and last a line that says so
abbrev pub why_text : Desk → (version : ℕ) → Option TroubleOf → List ℕ
why_text rows version None = last_line
why_text rows version (Some t) = trouble_lines rows version (command_from (spoken_call t.line)) t ++ last_line
