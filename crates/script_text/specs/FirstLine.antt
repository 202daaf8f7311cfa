-- What the first line of a script asks for: it may say who the bridge is (own).
use Rattle.std.specs.Prelude.{◌≡◌, ℕ, ◌<◌, ◌^◌, ◌==◌, Bool, true, false, if◌then◌else◌, List, [], ◌∷◌, ◌++◌, codes}
use Rattle.std.specs.Prelude.{Result, Ok, Err}
use Rattle.std.specs.List.{list_all, join_with_byte}
use Rattle.std.specs.Str.{bytes_eq}
use Rattle.std.specs.Fmt.{decimal}
use Rattle.sender_feedback.specs.Upstream.{Asker}
use Rattle.ingress.specs.Names.{is_name}
use Rattle.desk_text.specs.declared.fault.Fault.{Fault}
use Rattle.desk_text.specs.declared.fault.Fault.TheVariants.{UnknownWord, BadNumber}
use Rattle.desk_text.specs.Numbers.{decimal_of}
use Rattle.desk_text.specs.Words.{◌>>=◌, words_of, word_at, none_left, value_or, Lacks}
use Rattle.script_text.specs.Requests.{Request, Begin, line_request}
use Rattle.script_text.specs.ItemLines.{later_request}

-- the first word of a line that says who the bridge is
abbrev pub bridge_word : List ℕ
bridge_word = codes "bridge"

-- the word for buffers that begin anew
abbrev pub renew_word : List ℕ
renew_word = codes "renew"

-- who has this SSRC, and the name that the word at place 3 is
abbrev pub asker_of : ℕ → List ℕ → Result Asker (ℕ × Fault)
asker_of ssrc word = if is_name word then Ok (record { ssrc = ssrc; cname = word }) else Err (3, UnknownWord)

-- buffers begin anew, where no word is left
abbrev pub renew_alone : List (List ℕ) → Result Bool (ℕ × Fault)
renew_alone words = do
  end ← none_left 5 words
  Ok true

-- whether buffers begin anew, by the words from place 4 on
abbrev pub renews_of : List (List ℕ) → Result Bool (ℕ × Fault)
renews_of [] = Ok false
renews_of (word ∷ words) = if bytes_eq word renew_word then renew_alone words else Err (4, UnknownWord)

-- who the bridge is, by the words SSRC CNAME [renew] from place 2 on
unfoldable pub bridge_of : List (List ℕ) → Result Request (ℕ × Fault)
bridge_of words = do
  word ← word_at 2 words
  ssrc ← value_or 2 BadNumber (decimal_of 4294967295 word.0)
  name ← word_at 3 word.1
  who ← asker_of ssrc name.0
  renews ← renews_of name.1
  Ok (Begin who renews)

-- what the words of the first line ask for
unfoldable pub first_request : List (List ℕ) → Result Request (ℕ × Fault)
first_request [] = later_request []
first_request (word ∷ words) = if bytes_eq word bridge_word then bridge_of words else later_request (word ∷ words)

-- what the words of the line of this number ask for
abbrev pub words_request_at : ℕ → List (List ℕ) → Result Request (ℕ × Fault)
words_request_at number words = if number == 1 then first_request words else later_request words

-- what the line of this number asks for, from 1
abbrev pub request_at : ℕ → List ℕ → Result Request (ℕ × Fault)
request_at number line = line_request (words_request_at number (words_of line)) line

-- the words behind the name
abbrev pub renew_words : Bool → List (List ℕ)
renew_words true = renew_word ∷ []
renew_words false = []

-- the words of a line that says who the bridge is
abbrev pub bridge_words : Asker → (renews : Bool) → List (List ℕ)
bridge_words who renews = bridge_word ∷ decimal who.ssrc ∷ who.cname ∷ renew_words renews

-- that line
abbrev pub bridge_line : Asker → (renews : Bool) → List ℕ
bridge_line who renews = join_with_byte 32 (bridge_words who renews)

-- the SSRC is in range, and the name has 1 to 255 octets and no space
pub record IsNamed (who : Asker) : Type 0 where
  pub ssrc : who.ssrc < 2 ^ 32
  pub name : is_name who.cname ≡ true
  pub word : Lacks 32 who.cname
