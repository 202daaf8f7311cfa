use Rattle.std.proofs.Common.{◌≡◌, ◌++◌, map, take}
use Rattle.std.specs.List.{flat_map}
use Rattle.bridge_core.specs.Sent.{sent_of}
use Rattle.script_text.specs.SentLines.{sent_text}
use Rattle.script_text.proofs.answer.print_all.Given as goal

-- the lines of what went out so far stand behind what stood before
abbrev pub invariant-loop-egress : goal.invariant-loop-egress
invariant-loop-egress g l =
    l.out.items ≡ l.fn.out.items ++ flat_map sent_text (map sent_of (take l.egress-index l.egresses))
