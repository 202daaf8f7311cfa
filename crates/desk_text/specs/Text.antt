-- What is printed (own): lines, as lists of words.
use Rattle.std.specs.Prelude.{ℕ, ℤ, List, [], ◌∷◌, ◌++◌, map, codes}
use Rattle.std.specs.List.{join_with_byte}
use Rattle.std.specs.Fmt.{signed_decimal}
use Rattle.hex.specs.Hex.{encode_lower}
use Rattle.desk_edit.specs.declared.refusal.Carried.{Carried}
use Rattle.desk_edit.specs.declared.refusal.Carried.TheVariants.{Nothing, Limit, Last, Most, Part, InCall, Row}
use Rattle.desk_edit.specs.declared.refusal.Reason.{Reason}
use Rattle.desk_edit.specs.declared.refusal.Reason.TheVariants as reasons
use Rattle.desk_edit.specs.Reasons.{refusal_for}
use Rattle.desk_edit.specs.Told.{Told, table_text, standing_text, told_of}
use Rattle.desk_calls.specs.declared.reply.Reply.{Reply}
use Rattle.desk_calls.specs.declared.reply.Reply.TheVariants.{Accepted, Refused}
use Rattle.desk_text.specs.declared.fault.Fault.{Fault}
use Rattle.desk_text.specs.declared.fault.Fault.TheVariants.{LineTooLong, BadByte, UnknownWord}
use Rattle.desk_text.specs.declared.fault.Fault.TheVariants.{MissingWord, ExtraWord, BadNumber}
use Rattle.desk_text.specs.declared.fault.Fault.TheVariants.{BadAddress, BadHex, BadFrame}
use Rattle.desk_text.specs.declared.value.Value.{Value}
use Rattle.desk_text.specs.declared.value.Value.TheVariants.{U16, U32, U64}
use Rattle.desk_text.specs.Values.{value_text}

-- a fault of a line by number and name
abbrev pub fault_text : Fault → List ℕ
fault_text LineTooLong = codes "1 LineTooLong"
fault_text BadByte = codes "2 BadByte"
fault_text UnknownWord = codes "3 UnknownWord"
fault_text MissingWord = codes "4 MissingWord"
fault_text ExtraWord = codes "5 ExtraWord"
fault_text BadNumber = codes "6 BadNumber"
fault_text BadAddress = codes "7 BadAddress"
fault_text BadHex = codes "8 BadHex"
fault_text BadFrame = codes "9 BadFrame"

-- a word of a line: as it stands, a value, a number with its sign, or octets in hexadecimal
pub data Word : Type 0 where
  fixed : List ℕ → Word
  value : Value → Word
  signed : ℤ → Word
  hex : List ℕ → Word

-- how a word is written
abbrev pub word_text : Word → List ℕ
word_text (fixed text) = text
word_text (value v) = value_text v
word_text (signed n) = signed_decimal n
word_text (hex octets) = encode_lower octets

-- a line: its words with spaces (32) between them, and an LF (10)
abbrev pub line_text : List Word → List ℕ
line_text words = join_with_byte 32 (map word_text words) ++ 10 ∷ []

-- what the reason against a command carries behind its name
abbrev pub full_words : Reason → List Word
full_words (reasons.Full table limit) = fixed (table_text table) ∷ value (U32 limit) ∷ []
full_words reasons.Exists = []
full_words reasons.NoRoom = []
full_words reasons.NoMember = []
full_words reasons.NoSource = []
full_words reasons.NoSlot = []
full_words reasons.WrongKind = []
full_words reasons.OtherRoom = []
full_words reasons.SsrcTaken = []
full_words reasons.BadValue = []
full_words reasons.Already = []
full_words reasons.NotThere = []
full_words reasons.RateMismatch = []

-- the words of the reason against a command: those that the command alone is refused by
abbrev pub reason_words : Reason → List Word
reason_words reason =
    value (U16 (told_of (refusal_for reason)).number) ∷ fixed (told_of (refusal_for reason)).name ∷ full_words reason

-- what a refusal carries behind its name
abbrev pub carried_words : Carried → List Word
carried_words Nothing = []
carried_words (Limit table limit) = fixed (table_text table) ∷ value (U32 limit) ∷ []
carried_words (Last last) = value (U64 last) ∷ []
carried_words (Most limit) = value (U32 limit) ∷ []
carried_words (Part part why) = value (U32 part) ∷ reason_words why
carried_words (InCall call part why) = value (U64 call) ∷ value (U32 part) ∷ reason_words why
carried_words (Row kind number) = fixed (standing_text kind) ∷ value (U32 number) ∷ []

-- the words of what is told
abbrev pub told_words : Told → List Word
told_words told = value (U16 told.number) ∷ fixed told.name ∷ carried_words told.carries

-- the words of a reply: its number, or the version and the refusal
abbrev pub reply_words : Reply → List Word
reply_words (Accepted number) = fixed (codes "ok") ∷ value (U64 number) ∷ []
reply_words (Refused at why) = fixed (codes "no") ∷ value (U64 at) ∷ told_words (told_of why)

-- the line of a call that is refused at this version
abbrev pub refused_text : (at : ℕ) → Told → List ℕ
refused_text at told = line_text (fixed (codes "no") ∷ value (U64 at) ∷ told_words told)

-- the line of a reply
abbrev pub reply_text : Reply → List ℕ
reply_text reply = line_text (reply_words reply)
