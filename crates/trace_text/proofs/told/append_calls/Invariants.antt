use Rattle.std.proofs.Common.{◌≡◌, ◌++◌, take}
use Rattle.trace_text.specs.TraceLines.{calls_text}
use Rattle.trace_text.proofs.told.append_calls.Given as goal

-- what is out so far
abbrev pub invariant-loop-made : goal.invariant-loop-made
invariant-loop-made g l = l.out.items ≡ l.fn.out.items ++ calls_text l.speaker (take l.made-index l.calls)
