use Rattle.std.proofs.Common.{◌≡◌, take}
use Rattle.frame_gate.proofs.frame.Frame.try_clone.Given as goal

abbrev pub invariant-loop-packet : goal.invariant-loop-packet
invariant-loop-packet g l = l.packets.items ≡ take l.packet-index l.self.packets
