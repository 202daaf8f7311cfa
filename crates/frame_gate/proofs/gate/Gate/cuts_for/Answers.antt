use Rattle.std.proofs.Common.{ℕ, Option, sym, subst}
use Rattle.frame_gate.specs.Admits.{PreparesMaybe}
use Rattle.frame_gate.proofs.GivingUp.{no_cuts}
use Rattle.frame_gate.proofs.gate.Gate.cuts_for.Goals as goal

pub returns-in-None : goal.returns-in-None
returns-in-None g c =
    let r = c.no_cuts.result in
    let gives = c.no_cuts.ensures in
    subst (λ (lost : Option ℕ). PreparesMaybe c.args.self.now lost r) (sym c.in-None.is)
    (λ new commits e h. (gives.frames, gives.pli, no_cuts c.args.self.now new e r h gives.walk gives.frames commits))
