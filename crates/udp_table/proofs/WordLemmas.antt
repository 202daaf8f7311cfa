use Rattle.std.proofs.Common.{◌≡◌, ℕ, suc, ◌+◌, List, ap, arith}
use Rattle.udp_table.specs.Words.{behind_word, behind_words}

pub behind_more : (words : ℕ) (line : List ℕ) → behind_words (words + 1) line ≡ behind_word (behind_words words line)
behind_more words line = let on : words + 1 ≡ suc words = omega arith in ap (λ k. behind_words k line) on
