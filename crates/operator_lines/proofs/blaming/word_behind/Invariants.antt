use Rattle.std.proofs.Common.{◌≡◌, drop}
use Rattle.desk_text.specs.Words.{words_in, words_of}
use Rattle.operator_lines.proofs.blaming.word_behind.Given as goal

-- the words that are left
abbrev pub invariant-loop : goal.invariant-loop
invariant-loop l = words_in l.left ≡ drop l.counter (words_of l.line)
