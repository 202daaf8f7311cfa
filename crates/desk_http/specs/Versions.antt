-- The version of the desk that a word spells: digits, worth less than 2^64 (own).
use Rattle.std.specs.Prelude.{ℕ, ◌^◌, Bool, ◌&&◌, if◌then◌else◌, nat_lt, List, length, Option, Some, None}
use Rattle.std.specs.List.{list_all}
use Rattle.std.specs.Char.{is_ascii_digit}
use Rattle.std.specs.Str.Parse.{digits_value}

-- digits, at least one
abbrev pub is_digits : List ℕ → Bool
is_digits word = nat_lt 0 (length word) && list_all is_ascii_digit word

-- a number, if 64 bits hold it
abbrev pub in_64_bits : ℕ → Option ℕ
in_64_bits number = if nat_lt number (2 ^ 64) then Some number else None

-- the version that a word spells
abbrev pub version_of : List ℕ → Option ℕ
version_of word = if is_digits word then in_64_bits (digits_value 10 word) else None
