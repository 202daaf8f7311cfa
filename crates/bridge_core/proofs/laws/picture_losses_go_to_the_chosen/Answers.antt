use Rattle.bridge_core.proofs.Telling.{all_passed_up}
use Rattle.bridge_core.proofs.laws.picture_losses_go_to_the_chosen.Goals as goal

pub returns : goal.returns
returns c who lanes lane start before loss = (all_passed_up who lanes lane start before loss, tt)
