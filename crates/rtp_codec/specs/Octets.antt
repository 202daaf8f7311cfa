-- Octets: numbers of eight bits.
use Rattle.std.specs.Prelude.{ℕ, ◌<◌, ◌^◌, List}
use Rattle.std.specs.List.{AllByRecursion}

-- each of the numbers is an octet
abbrev pub AreOctets : List ℕ → Type 0
AreOctets numbers = AllByRecursion (λ n. n < 2 ^ 8) numbers
