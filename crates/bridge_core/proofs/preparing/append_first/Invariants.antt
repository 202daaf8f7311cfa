-- What is there and what is left make the whole.
use Rattle.std.proofs.Common.{◌≡◌, ◌++◌, None, map, drop}
use Rattle.bridge_core.specs.Sent.{sent_of}
use Rattle.bridge_core.specs.Lanes.{goes}
use Rattle.bridge_core.proofs.preparing.append_first.Given as goal

abbrev pub invariant-loop-entry : goal.invariant-loop-entry
invariant-loop-entry g l =
    map sent_of l.out.items ++ map (goes l.ssrc None) (drop l.entry-index l.entries)
    ≡ map sent_of l.fn.out.items ++ map (goes l.ssrc None) l.entries
