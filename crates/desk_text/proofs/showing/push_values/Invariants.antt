use Rattle.std.proofs.Common.{◌≡◌, ◌+◌, ◌++◌, length, map, take}
use Rattle.desk_text.specs.Shown.{said}
use Rattle.desk_text.specs.RowLines.{row_word}
use Rattle.desk_text.proofs.showing.push_values.Given as goal

-- the words so far
abbrev pub invariant-loop-value : goal.invariant-loop-value
invariant-loop-value l = record {
  count : length l.words.items ≡ length l.fn.words.items + l.value-index;
  words : map said l.words.items ≡ map said l.fn.words.items ++ map row_word (take l.value-index l.values);
}
