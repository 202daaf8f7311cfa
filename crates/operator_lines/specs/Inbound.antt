-- What has come from an operator, line by line (own).
use Rattle.std.specs.Prelude.{◌+◌, ◌==◌, ℕ, List, Option, Some, None, length, take, position}

-- how many octets reach up to the octet at this place, or how many there are without one
abbrev pub up_to : Option ℕ → List ℕ → ℕ
up_to (Some at) octets = at + 1
up_to None octets = length octets

-- how many octets the first line has with its LF (10), or how many there are, where none has come
abbrev pub end_of_line : List ℕ → ℕ
end_of_line octets = up_to (position (λ octet. octet == 10) octets) octets

-- the first line with its LF, or all octets, where none has come
abbrev pub next_piece : List ℕ → List ℕ
next_piece octets = take (end_of_line octets) octets
