-- The words of a line, with any number of spaces (32) between them, and their numbers (own).
use Rattle.std.specs.Prelude.{ℕ, zero, suc, ◌+◌, ◌-◌, ◌*◌, ◌^◌, ◌==◌, not, nat_lt, List, take, drop, length}
use Rattle.std.specs.Prelude.{position, fold, Option, None, Some, if◌then◌else◌}
use Rattle.std.specs.Char.{is_ascii_digit}

-- the place, or else the length of the text
abbrev pub place_or_length : Option ℕ → List ℕ → ℕ
place_or_length None text = length text
place_or_length (Some place) text = place

-- how many spaces a text begins with
abbrev pub spaces_of : List ℕ → ℕ
spaces_of text = place_or_length (position (λ b. not (b == 32)) text) text

-- how many octets a text has before its first space
abbrev pub size_of : List ℕ → ℕ
size_of text = place_or_length (position (λ b. b == 32) text) text

-- a line from its first word on
abbrev pub from_word : List ℕ → List ℕ
from_word line = drop (spaces_of line) line

-- the first word of a line, which is empty where there is none
abbrev pub first_word : List ℕ → List ℕ
first_word line = take (size_of (from_word line)) (from_word line)

-- what stands behind the first word of a line
abbrev pub behind_word : List ℕ → List ℕ
behind_word line = drop (size_of (from_word line)) (from_word line)

-- what stands behind so many words of a line
abbrev pub behind_words : ℕ → List ℕ → List ℕ
behind_words zero line = line
behind_words (suc words) line = behind_word (behind_words words line)

-- the word of a line that stands behind so many others, which is empty where there is none
abbrev pub word_at : ℕ → List ℕ → List ℕ
word_at others line = first_word (behind_words others line)

-- n, if it has 64 bits
abbrev pub fitting : ℕ → Option ℕ
fitting n = if nat_lt n (2 ^ 64) then Some n else None

-- the number of these decimal digits with one more
abbrev pub number_with : Option ℕ → ℕ → Option ℕ
number_with None octet = None
number_with (Some n) octet = if is_ascii_digit octet then fitting (n * 10 + (octet - 48)) else None

-- the number that a word of decimal digits spells, if it has 64 bits
abbrev pub word_number : List ℕ → Option ℕ
word_number word = if length word == 0 then None else fold number_with (Some 0) word
