use Rattle.std.proofs.Common.{◌≡◌, ◌++◌, map, take}
use Rattle.std.specs.List.{flat_map}
use Rattle.ingress.specs.Ingested.{datagram_of}
use Rattle.script_text.specs.Datagrams.{up_text}
use Rattle.script_text.proofs.outcomes.print_all_up.Given as goal

-- the lines of what goes up so far stand behind what stood before
abbrev pub invariant-loop-to : goal.invariant-loop-to
invariant-loop-to g l = l.out.items ≡ l.fn.out.items ++ flat_map up_text (map datagram_of (take l.to-index l.up))
