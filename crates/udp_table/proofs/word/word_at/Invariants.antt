use Rattle.std.proofs.Common.{◌≡◌}
use Rattle.udp_table.specs.Words.{behind_words}
use Rattle.udp_table.proofs.word.word_at.Given as goal

-- what stands behind the words so far
abbrev pub invariant-loop : goal.invariant-loop
invariant-loop l = l.rest ≡ behind_words l.counter l.line
