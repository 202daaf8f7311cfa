use Rattle.std.proofs.Common.{ap, ◌∙◌, sym}
use Rattle.frame_gate.proofs.FrameFacts.{kinds_fit}
use Rattle.frame_gate.specs.Frame.{WholeFrame, fault_of}
use Rattle.frame_gate.proofs.frame.Frame.sent.Goals as goal

pub returns-clause-kinds : goal.returns-clause-kinds
returns-clause-kinds g c =
    kinds_fit c.args.self.now.packets
    (ap (λ (f : WholeFrame). fault_of f.packets) (sym c.self.view_is) ∙ c.self.invariant)
