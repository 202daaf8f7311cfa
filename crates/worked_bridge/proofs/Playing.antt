-- Runs of a bridge.
use Rattle.std.proofs.Common.{refl}
use Rattle.bridge_core.specs.Steps.{CoreOf}
use Rattle.bridge_core.specs.Events.{Listens}

-- a core that is left alone
pub at_rest : (core : CoreOf) → Listens core core
at_rest core =
    record { version = refl; history = refl; desk = refl; done = refl; undone = refl; lanes = refl; who = refl }
