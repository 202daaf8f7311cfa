-- Decimal numbers without leading zeros, and numbers of two octets (own).
use Rattle.std.specs.Prelude.{◌≡◌, ◌⊎◌, ℕ, ℤ, pos, negsuc, neg_ℤ, ◌<◌, ◌+◌, ◌-◌, ◌/◌, ◌%◌, ◌^◌, ◌==◌, ◌&&◌, ◌||◌}
use Rattle.std.specs.Prelude.{not, Bool, List, [], ◌∷◌, length, slice_index, nat_lt, codes, Option, Some, None}
use Rattle.std.specs.Prelude.{if◌then◌else◌}
use Rattle.std.specs.Fmt.{signed_decimal}
use Rattle.std.specs.List.{list_all, flat_map}
use Rattle.std.specs.Option.{option_map}
use Rattle.std.specs.Char.{is_ascii_digit}
use Rattle.std.specs.Str.Parse.{digits_value}

-- digits, with no zero (48) in front of others
abbrev pub is_number : List ℕ → Bool
is_number word =
    list_all is_ascii_digit word
    && (nat_lt 0 (length word) && (nat_lt (length word) 2 || not (slice_index word 0 == 48)))

-- n, if it is below the limit
abbrev pub below : ℕ → ℕ → Option ℕ
below limit n = if nat_lt n limit then Some n else None

-- the number that a word spells, if it is at most max
abbrev pub decimal_of : ℕ → List ℕ → Option ℕ
decimal_of max word = if is_number word then below (max + 1) (digits_value 10 word) else None

-- as far below 0
abbrev pub negative : ℕ → ℤ
negative n = neg_ℤ (pos n)

-- the numbers of 64 bits with a sign
abbrev pub FitsExt : ℤ → Type 0
FitsExt (pos n) = n < 2 ^ 63
FitsExt (negsuc n) = n < 2 ^ 63

-- the signed number of 64 bits that a word spells; only here may a `-` (45) stand in front
unfoldable pub ext_of : List ℕ → Option ℤ
ext_of [] = None
ext_of (first ∷ rest) =
    if first == 45 then option_map negative (decimal_of (2 ^ 63) rest)
    else option_map pos (decimal_of (2 ^ 63 - 1) (first ∷ rest))

-- how a sequence number may be written: `-0` is 0 too
abbrev pub SpellsExt : List ℕ → ℤ → Type 0
SpellsExt word z = (word ≡ signed_decimal z) ⊎ ((word ≡ codes "-0") × (z ≡ pos 0))

-- the two octets of a number
abbrev pub pair_octets : ℕ → List ℕ
pair_octets number = number / 256 ∷ number % 256 ∷ []

-- the octets of numbers
abbrev pub pairs_octets : List ℕ → List ℕ
pairs_octets numbers = flat_map pair_octets numbers
