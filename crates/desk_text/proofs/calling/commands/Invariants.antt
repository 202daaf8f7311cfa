use Rattle.std.proofs.Common.{◌≡◌, ◌+◌, ◌≤◌, Some}
use Rattle.desk_text.specs.Calls.{commands_of}
use Rattle.desk_text.specs.Words.{size_of}
use Rattle.desk_text.specs.inner.Parts.{parts_in, size_of_parts}
use Rattle.desk_text.proofs.GroupLemmas.{behind}
use Rattle.desk_text.proofs.calling.commands.Given as goal

-- the commands so far stand before those of the parts that are left
abbrev pub invariant-loop-left : goal.invariant-loop-left
invariant-loop-left g l = record {
  place : l.at + size_of_parts l.left ≤ l.fn.place + size_of l.fn.words + 2;
  short : size_of_parts l.left ≤ size_of l.fn.words + 2;
  commands : commands_of l.fn.place (parts_in (Some l.fn.words))
      ≡ behind l.commands.items (commands_of l.at (parts_in l.left));
}

abbrev pub decreases-loop-left : goal.decreases-loop-left
decreases-loop-left g l = size_of_parts l.left
