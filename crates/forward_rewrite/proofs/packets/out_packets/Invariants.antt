-- The packets so far and those of what is left are all of them.
use Rattle.std.proofs.Common.{◌≡◌, ◌++◌, map, drop}
use Rattle.forward_rewrite.specs.Sending.{out_of}
use Rattle.forward_rewrite.proofs.packets.out_packets.Given as goal

abbrev pub invariant-loop-entry : goal.invariant-loop-entry
invariant-loop-entry g l = l.out.items ++ map out_of (drop l.entry-index l.entries) ≡ map out_of l.entries
