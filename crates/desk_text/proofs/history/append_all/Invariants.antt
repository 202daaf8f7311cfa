use Rattle.std.proofs.Common.{take, Ok}
use Rattle.std.specs.List.{flat_map}
use Rattle.desk_text.specs.inner.Growing.{buffer_of, Grows}
use Rattle.desk_text.specs.HistoryText.{made_line}
use Rattle.desk_text.proofs.history.append_all.Given as goal

-- what is out so far
abbrev pub invariant-loop-made : goal.invariant-loop-made
invariant-loop-made g l =
    Grows (buffer_of l.fn.out) (buffer_of l.out) (flat_map made_line (take l.made-index l.all)) (Ok tt)
