-- The lines in which a bridge tells what it counted (own): words and numbers.
use Rattle.std.specs.Prelude.{ℕ, ℤ, List, [], ◌∷◌, ◌++◌, codes, decimal, get_or}
use Rattle.std.specs.List.{flat_map}
use Rattle.std.specs.Fmt.{signed_decimal}
use Rattle.rtp_codec.specs.declared.address.Address.{Address}
use Rattle.rtp_codec.specs.Address.{address_text}

-- a part of a line: words as they stand, a number, a number with its sign, an address
pub data LinePart : Type 0 where
  words : List ℕ → LinePart
  number : ℕ → LinePart
  signed : ℤ → LinePart
  place : Address → LinePart

-- what stands where there is no word
abbrev pub no_word : LinePart
no_word = words (codes "-")

-- how a part is written
abbrev pub part_text : LinePart → List ℕ
part_text (words text) = text
part_text (number n) = decimal n
part_text (signed n) = signed_decimal n
part_text (place a) = address_text a

-- a part with a space before it
abbrev pub next_text : LinePart → List ℕ
next_text part = 32 ∷ part_text part

-- a line: its first word, its parts with a space before each, and an LF (10)
abbrev pub line_text : List ℕ → List LinePart → List ℕ
line_text first parts = first ++ (flat_map next_text parts ++ 10 ∷ [])
