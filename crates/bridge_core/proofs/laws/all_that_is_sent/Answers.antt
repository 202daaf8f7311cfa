use Rattle.std.specs.Prelude.{[]}
use Rattle.bridge_core.proofs.RunLaws.{sent_along}
use Rattle.bridge_core.proofs.laws.all_that_is_sent.Goals as goal

pub returns : goal.returns
returns c start steps sent first last taken run = sent_along start [] steps sent first last taken run
