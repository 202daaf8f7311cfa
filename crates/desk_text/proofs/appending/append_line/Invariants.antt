use Rattle.std.proofs.Common.{map, take, Ok}
use Rattle.desk_text.specs.inner.Growing.{buffer_of, Grows}
use Rattle.desk_text.specs.Shown.{said}
use Rattle.desk_text.proofs.GrowLemmas.{joined}
use Rattle.desk_text.proofs.appending.append_line.Given as goal

-- the words so far are out
abbrev pub invariant-loop-word : goal.invariant-loop-word
invariant-loop-word g l =
    Grows (buffer_of l.fn.out) (buffer_of l.out) (joined l.first (map said (take l.word-index l.words))) (Ok tt)
