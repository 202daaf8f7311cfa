-- What operators' lines ask for, and how they are answered (own).
use Rattle.std.specs.Prelude.{◌≡◌, ℕ, Bool, true, false, not, ◌&&◌, if◌then◌else◌, List, [], ◌∷◌, ◌++◌, length}
use Rattle.std.specs.Prelude.{take, codes, decimal, nat_lt, nat_le, Option, Some, None, option_map, Result, Ok, Err}
use Rattle.std.specs.List.{list_all}
use Rattle.std.specs.Str.{bytes_eq}
use Rattle.desk_edit.specs.Asked.{CallOf, asked_by}
use Rattle.desk_text.specs.declared.fault.Fault.{Fault}
use Rattle.desk_text.specs.declared.fault.Fault.TheVariants.{LineTooLong, BadByte, UnknownWord, MissingWord}
use Rattle.desk_text.specs.declared.fault.Fault.TheVariants.{ExtraWord, BadNumber, BadAddress, BadHex, BadFrame}
use Rattle.desk_text.specs.Words.{◌>>=◌, value_or, word_at, none_left}
use Rattle.desk_text.specs.Numbers.{decimal_of}
use Rattle.desk_text.specs.Calls.{spoken_call, spoken_words}
use Rattle.desk_text.specs.Lines.{is_printable}
use Rattle.desk_text.specs.Text.{fault_text}
use Rattle.operator_lines.specs.DeskAsk.{DeskAsk, calls, watches, lists, renames, leases, faults}
use Rattle.operator_lines.specs.Help.{help_text}
use Rattle.operator_lines.specs.Own.{own_of}
use Rattle.operator_lines.specs.Topics.{topic_of}
use Rattle.operator_lines.specs.declared.asking.LineAsk.{LineAsk}
use Rattle.operator_lines.specs.declared.asking.LineAsk.TheVariants as variants
use Rattle.operator_lines.specs.declared.asking.Verb.{Verb}
use Rattle.operator_lines.specs.declared.asking.Verb.TheVariants.{Show, Calls, Watch, Lease, Help, Quit, Stop}
use Rattle.operator_lines.specs.declared.line_desk.LeaseAsk.{LeaseAsk}
use Rattle.operator_lines.specs.declared.line_desk.LeaseAsk.TheVariants.{Tell, Off, Lasts}
use Rattle.operator_lines.specs.declared.line_desk.View.{View}
use Rattle.operator_lines.specs.declared.line_desk.View.TheVariants.{Rows, Groups, History, Stats, Levels, Why}
use Rattle.operator_lines.specs.declared.own.Own.{Own}
use Rattle.operator_lines.specs.declared.own.Own.TheVariants as owns
use Rattle.operator_lines.specs.declared.topic.Topic.{Topic}
use Rattle.operator_lines.specs.declared.answering.Next.{Next}
use Rattle.operator_lines.specs.declared.answering.Next.TheVariants as next

-- what a line asks for: a call of the desk, a name for the connection, or what needs no octets of the line's own
pub data AskOf : Type 0 where
  spoken : CallOf → AskOf
  names : List ℕ → AskOf
  alone : Verb → AskOf

-- what was read, without where its octets and its commands lie
abbrev pub asks : {A : Type 0} → LineAsk A → AskOf
asks (variants.Call call) = spoken (asked_by call)
asks (variants.Name name) = names name.now
asks (variants.Verb verb) = alone verb

-- the call that was read
abbrev pub asked_call : Result CallOf (ℕ × Fault) → Result AskOf (ℕ × Fault)
asked_call (Ok call) = Ok (spoken call)
asked_call (Err fault) = Err fault

-- the greatest number of 64 bits: more calls than a desk accepts
abbrev pub every_call : ℕ
every_call = 18446744073709551615

-- the most octets of a name
abbrev pub name_limit : ℕ
name_limit = 64

-- how many calls at most these words, behind a line's first, ask for: all, where there are none
unfoldable pub most_in : List (List ℕ) → Result ℕ (ℕ × Fault)
most_in [] = Ok every_call
most_in (word ∷ words) = do
  most ← value_or 2 BadNumber (decimal_of every_call word)
  end ← none_left 3 words
  Ok most

-- these words ask for moments and names: `names` does, and no other word may stand there
unfoldable pub named_in : List (List ℕ) → Result Bool (ℕ × Fault)
named_in [] = Ok false
named_in (word ∷ words) = do
  first ← none_left 2 (if bytes_eq word (codes "names") then [] else word ∷ [])
  end ← none_left 3 words
  Ok true

-- a word can be a name
abbrev pub is_operator_name : List ℕ → Bool
is_operator_name word = nat_lt 0 (length word) && nat_le (length word) name_limit

-- the word, if it can be a name
abbrev pub name_from : List ℕ → Option (List ℕ)
name_from word = if is_operator_name word then Some word else None

-- the name that these words are
unfoldable pub name_in : List (List ℕ) → Result (List ℕ) (ℕ × Fault)
name_in words = do
  word ← word_at 2 words
  name ← value_or 2 UnknownWord (name_from word.0)
  end ← none_left 3 word.1
  Ok name

-- the most milliseconds of a lease
abbrev pub lease_limit : ℕ
lease_limit = 4294967295

-- what of the lease a word asks for: `off`, or how many milliseconds it lasts
abbrev pub lease_of : List ℕ → Option LeaseAsk
lease_of word = if bytes_eq word (codes "off") then Some Off else option_map Lasts (decimal_of lease_limit word)

-- what of the lease these words ask for: what is left, where there are none
unfoldable pub lease_in : List (List ℕ) → Result LeaseAsk (ℕ × Fault)
lease_in [] = Ok Tell
lease_in (word ∷ words) = do
  ask ← value_or 2 BadNumber (lease_of word)
  end ← none_left 3 words
  Ok ask

-- what these words ask about: no line, or the one that begins with the word
unfoldable pub topic_in : List (List ℕ) → Result (Option Topic) (ℕ × Fault)
topic_in [] = Ok None
topic_in (word ∷ words) = do
  topic ← value_or 2 UnknownWord (topic_of word)
  end ← none_left 3 words
  Ok (Some topic)

-- this is asked, where no word stands behind the first
unfoldable pub alone_in : Verb → List (List ℕ) → Result AskOf (ℕ × Fault)
alone_in verb words = do
  end ← none_left 2 words
  Ok (alone verb)

-- what a line asks that begins so, with these words behind its first
unfoldable pub asked_own : Own → List (List ℕ) → Result AskOf (ℕ × Fault)
asked_own owns.Show words = alone_in (Show Rows) words
asked_own owns.Groups words = alone_in (Show Groups) words
asked_own owns.History words = do
  most ← most_in words
  Ok (alone (Show (History most)))
asked_own owns.Calls words = do
  most ← most_in words
  Ok (alone (Calls most))
asked_own owns.Stats words = alone_in (Show Stats) words
asked_own owns.Levels words = alone_in (Show Levels) words
asked_own owns.Watch words = do
  is_named ← named_in words
  Ok (alone (Watch is_named))
asked_own owns.As words = do
  name ← name_in words
  Ok (names name)
asked_own owns.Lease words = do
  ask ← lease_in words
  Ok (alone (Lease ask))
asked_own owns.Why words = alone_in (Show Why) words
asked_own owns.Help words = do
  topic ← topic_in words
  Ok (alone (Help topic))
asked_own owns.Quit words = alone_in Quit words
asked_own owns.Stop words = alone_in Stop words

-- such a line asks this; any other line is a call
abbrev pub own_or : Option Own → List (List ℕ) → Result AskOf (ℕ × Fault) → Result AskOf (ℕ × Fault)
own_or (Some own) words otherwise = asked_own own words
own_or None words otherwise = otherwise

-- what a line of these words asks for, by the call that it is
abbrev pub asked_in : List (List ℕ) → Result AskOf (ℕ × Fault) → Result AskOf (ℕ × Fault)
asked_in [] otherwise = otherwise
asked_in (word ∷ words) otherwise = own_or (own_of word) words otherwise

-- each octet is one that a line may hold
abbrev pub is_printed : List ℕ → Bool
is_printed line = list_all is_printable line

-- what a line asks for, or its first fault and the place of its word; place 0 is the whole line
unfoldable pub asked_of : List ℕ → Result AskOf (ℕ × Fault)
asked_of line =
    if not (is_printed line) then Err (0, BadByte)
    else asked_in (spoken_words line) (asked_call (spoken_call line))

-- the first word of a line is `group`
abbrev pub begins_group : List ℕ → Type 0
begins_group line = take 1 (spoken_words line) ≡ codes "group" ∷ []

-- the line of a fault of the word at this place
abbrev pub fault_line : ℕ → Fault → List ℕ
fault_line word fault = codes "fault " ++ decimal word ++ codes " " ++ fault_text fault ++ codes "\n"

-- the answer to a connection when no seat is free
abbrev pub busy_line : List ℕ
busy_line = codes "busy\n"

-- What happens to a connection behind a faulty line. One that is too long, or has an octet that no line may hold,
-- closes it.
abbrev pub after_fault : Fault → Next
after_fault LineTooLong = next.Quit
after_fault BadByte = next.Quit
after_fault UnknownWord = next.Stay
after_fault MissingWord = next.Stay
after_fault ExtraWord = next.Stay
after_fault BadNumber = next.Stay
after_fault BadAddress = next.Stay
after_fault BadHex = next.Stay
after_fault BadFrame = next.Stay

-- how a desk may reply: the desk before and after, what it is asked, and the text that is told
abbrev pub Replying : Type 0 → Type 1
Replying D = D → D → DeskAsk → List ℕ → Type 0

-- the same at a moment, in nanoseconds since 1970
abbrev pub TimedReplying : Type 0 → Type 1
TimedReplying D = (moment : ℕ) → Replying D

-- what a desk may show: what is asked of it, and the text that is told
abbrev pub Showing : Type 0 → Type 1
Showing D = D → View → List ℕ → Type 0

-- what a desk is asked is answered, and the text is appended
abbrev pub AppendsReply : {D : Type 0} → Replying D → D → D → DeskAsk → List ℕ → List ℕ → Type 0
AppendsReply replies old new ask before after = (text : List ℕ) × (after ≡ before ++ text) × replies old new ask text

-- this is shown, and its text is appended
abbrev pub AppendsShown : {D : Type 0} → Showing D → D → View → List ℕ → List ℕ → Type 0
AppendsShown shows desk view before after = (text : List ℕ) × (after ≡ before ++ text) × shows desk view text

-- What was read of a line is answered so, and this happens to the connection. The desk notes a fault, and tells
-- nothing of it.
abbrev pub AnswersAsk :
    {D : Type 0} → Replying D → Showing D → (line : List ℕ) → D → Result AskOf (ℕ × Fault) → D → List ℕ → Next → Type 0
AnswersAsk replies shows line old (Err fault) new text becomes =
    replies old new (faults line fault.0 fault.1) [] × (text ≡ fault_line fault.0 fault.1)
    × (becomes ≡ after_fault fault.1)
AnswersAsk replies shows line old (Ok (spoken call)) new text becomes =
    replies old new (calls line call) text × (becomes ≡ next.Stay)
AnswersAsk replies shows line old (Ok (names name)) new text becomes =
    replies old new (renames name) text × (becomes ≡ next.Stay)
AnswersAsk replies shows line old (Ok (alone (Show view))) new text becomes =
    (new ≡ old) × shows old view text × (becomes ≡ next.Stay)
AnswersAsk replies shows line old (Ok (alone (Calls most))) new text becomes =
    replies old new (lists most) text × (becomes ≡ next.Stay)
AnswersAsk replies shows line old (Ok (alone (Watch is_named))) new text becomes =
    replies old new (watches is_named) text × (becomes ≡ next.Stay)
AnswersAsk replies shows line old (Ok (alone (Lease ask))) new text becomes =
    replies old new (leases ask) text × (becomes ≡ next.Stay)
AnswersAsk replies shows line old (Ok (alone (Help topic))) new text becomes =
    (new ≡ old) × (text ≡ help_text topic) × (becomes ≡ next.Stay)
AnswersAsk replies shows line old (Ok (alone Quit)) new text becomes =
    (new ≡ old) × (text ≡ []) × (becomes ≡ next.Quit)
AnswersAsk replies shows line old (Ok (alone Stop)) new text becomes =
    (new ≡ old) × (text ≡ []) × (becomes ≡ next.Stop)

-- what was read of a line is answered so, and the text is appended
abbrev pub AppendsAnswer :
    {D : Type 0} → Replying D → Showing D → (line : List ℕ) → D → Result AskOf (ℕ × Fault) → D → List ℕ → List ℕ → Next
    → Type 0
AppendsAnswer replies shows line old read new before after becomes =
    (text : List ℕ) × (after ≡ before ++ text) × AnswersAsk replies shows line old read new text becomes

-- a line is answered so, and the text is appended
abbrev pub AnswersLine :
    {D : Type 0} → Replying D → Showing D → D → D → List ℕ → List ℕ → List ℕ → Next → Type 0
AnswersLine replies shows old new line before after becomes =
    AppendsAnswer replies shows line old (asked_of line) new before after becomes
