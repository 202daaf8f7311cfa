use Rattle.std.proofs.Common.{arith}
use Rattle.frame_gate.proofs.FrameFacts.{few_packets}
use Rattle.frame_gate.proofs.frame.Frame.len.Goals as goal

pub overflow_cast-result : goal.overflow_cast-result
overflow_cast-result g c = let few = few_packets c.self.inside.packets.items c.self.invariant in omega arith

pub returns-clause-few : goal.returns-clause-few
returns-clause-few g c = let few = few_packets c.self.inside.packets.items c.self.invariant in omega arith
