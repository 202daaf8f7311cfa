-- The words of the bridge's lines, and what stands where among them (own).
use Rattle.std.specs.Prelude.{ℕ, zero, suc, ◌+◌, ◌==◌, if◌then◌else◌, nat_lt, List, length, position}
use Rattle.std.specs.Prelude.{Option, Some, None}
use Rattle.std.specs.List.{slice_split, slice_get, position_or_len, before_first, after_first}
use Rattle.std.specs.Option.{option_and_then}
use Rattle.std.specs.Str.{bytes_eq}
use Rattle.desk_http.specs.declared.reading.WordPlace.{WordPlace}
use Rattle.desk_http.specs.declared.reading.WordPlace.TheVariants.{Word, Behind, Rest, Fixed}

-- the lines of a text: what stands between LFs (10)
abbrev pub answer_lines : List ℕ → List (List ℕ)
answer_lines text = slice_split (λ b. b == 10) text

-- the words of a line: what stands between single spaces (32)
abbrev pub words_of : List ℕ → List (List ℕ)
words_of line = slice_split (λ b. b == 32) line

-- the first word of a line
abbrev pub leading_word : List ℕ → List ℕ
leading_word line =
    if nat_lt (position_or_len (λ b. b == 32) line) (length line) then before_first (λ b. b == 32) line else line

-- the line behind its first word, if it has another one
abbrev pub behind_first : List ℕ → Option (List ℕ)
behind_first line =
    if nat_lt (position_or_len (λ b. b == 32) line) (length line) then Some (after_first (λ b. b == 32) line) else None

-- the line behind so many words
abbrev pub behind : ℕ → List ℕ → Option (List ℕ)
behind zero line = Some line
behind (suc count) line = option_and_then (behind count) (behind_first line)

-- where a word stands among others
abbrev pub word_place : List ℕ → List (List ℕ) → Option ℕ
word_place word words = position (λ other. bytes_eq other word) words

-- what stands at a place of a line with these words
abbrev pub found : WordPlace → List ℕ → List (List ℕ) → Option (List ℕ)
found (Word at) line words = slice_get words at
found (Behind word count) line words = option_and_then (λ at. slice_get words (at + count)) (word_place word.now words)
found (Rest count) line words = behind count line
found (Fixed text) line words = Some text.now
