use Rattle.std.proofs.Common.{take, Ok}
use Rattle.std.specs.List.{flat_map}
use Rattle.bridge_stats.specs.inner.Growing.{buffer_of, Grows}
use Rattle.bridge_stats.specs.inner.Said.{next_said}
use Rattle.bridge_stats.proofs.appending.append_fields.Given as goal

-- what is out so far
abbrev pub invariant-loop-field : goal.invariant-loop-field
invariant-loop-field g l =
    Grows (buffer_of l.fn.out) (buffer_of l.out) (flat_map next_said (take l.field-index l.fields)) (Ok tt)
