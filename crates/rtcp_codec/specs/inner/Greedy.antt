-- Words of packing, inside the crate: numbers up to a bit, and what is packed so far.
use Rattle.std.specs.Prelude.{ℕ, ◌+◌, ◌%◌, ◌^◌, List, [], ◌∷◌, map, filter, ⊤}
use Rattle.std.specs.List.{range_with_len}
use Rattle.rtcp_codec.specs.declared.nack.NackWord.{NackWord}
use Rattle.rtcp_codec.specs.Nack.{has_bit, numbers_named, MayName}

-- the numbers that a word names, up to PID + n
unfoldable pub numbers_up_to : ℕ → ℕ → ℕ → List ℕ
numbers_up_to n pid blp = pid ∷ map (λ i. (pid + i) % 2 ^ 16) (filter (has_bit blp) (range_with_len 1 n))

-- a word takes each next number that it may name: the first of those that are left isn't one
abbrev pub TakesAll : ℕ → ℕ → List ℕ → Type 0
TakesAll pid blp [] = ⊤
TakesAll pid blp (number ∷ rest) = ¬ (MayName pid blp number)

-- each word takes all that it may
abbrev pub AreGreedy : List NackWord → Type 0
AreGreedy [] = ⊤
AreGreedy (w ∷ ws) = TakesAll w.pid w.blp (numbers_named ws) × AreGreedy ws
