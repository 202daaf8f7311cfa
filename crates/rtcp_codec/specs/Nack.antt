-- Generic NACKs: their words, and the sequence numbers that these name (RFC 4585 section 6.2.1).
use Rattle.std.specs.Prelude.{◌≡◌, ℕ, ◌+◌, ◌-◌, ◌/◌, ◌%◌, ◌^◌, ◌<◌, ◌≤◌, ◌==◌, Bool, List, [], ◌∷◌, ◌++◌, map, filter}
use Rattle.std.specs.Prelude.{All, AllPairs, ⊤}
use Rattle.std.specs.List.{flat_map, range_with_len, AllByRecursion}
use Rattle.std.specs.Int.{w16, to_be_bytes}
use Rattle.rtp_codec.specs.Sequence.{distance}
use Rattle.rtcp_codec.specs.declared.nack.NackWord.{NackWord}

-- bit i of BLP, the least significant being bit 1
abbrev pub has_bit : ℕ → ℕ → Bool
has_bit blp i = blp / 2 ^ (i - 1) % 2 == 1

-- how many bits BLP has
abbrev pub most_bits : ℕ
most_bits = 16

-- the numbers that a word names: PID, and PID + i for each bit i that is set, ascending from PID
unfoldable pub numbers_of : ℕ → ℕ → List ℕ
numbers_of pid blp = pid ∷ map (λ i. (pid + i) % 2 ^ 16) (filter (has_bit blp) (range_with_len 1 most_bits))

-- the numbers that words name, in order
abbrev pub numbers_named : List NackWord → List ℕ
numbers_named words = flat_map (λ w. numbers_of w.pid w.blp) words

-- a word may name this number too: it lies 1 to 16 ahead of PID, and ahead of each number that the word names (own)
abbrev pub MayName : ℕ → ℕ → ℕ → Type 0
MayName pid blp number =
    All (λ m. distance pid m < distance pid number) (numbers_of pid blp) × (distance pid number ≤ most_bits)

-- words are packed greedily: only a number that the word before may not name begins a new one (own)
abbrev pub ArePacked : List NackWord → Type 0
ArePacked [] = ⊤
ArePacked (w ∷ []) = ⊤
ArePacked (w ∷ v ∷ ws) = (¬ MayName w.pid w.blp v.pid) × ArePacked (v ∷ ws)

-- the numbers lie further and further ahead of the first of them
abbrev pub AreRising : List ℕ → Type 0
AreRising [] = ⊤
AreRising (first ∷ rest) = AllPairs (λ m n. distance first m < distance first n) (first ∷ rest)

-- each PID lies over 16 ahead of the PID before it, whose word has no bit for it (own)
abbrev pub AreApart : List NackWord → Type 0
AreApart [] = ⊤
AreApart (w ∷ []) = ⊤
AreApart (w ∷ v ∷ ws) = (most_bits < distance w.pid v.pid) × AreApart (v ∷ ws)

-- the four octets of a word
abbrev pub word_octets : NackWord → List ℕ
word_octets w = to_be_bytes w16 w.pid ++ to_be_bytes w16 w.blp

-- a word whose numbers fit their fields
pub record FitsWord (w : NackWord) : Type 0 where
  pub pid : w.pid < 2 ^ 16
  pub blp : w.blp < 2 ^ 16

-- words that fit their fields, name these numbers and are packed
pub record IsPacking (numbers : List ℕ) (words : List NackWord) : Type 0 where
  pub names : numbers_named words ≡ numbers
  pub packed : ArePacked words
  pub fits : AllByRecursion FitsWord words
