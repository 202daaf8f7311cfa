use Rattle.desk_edit.proofs.Forcing.{planned, kept_front}
use Rattle.desk_revert.proofs.laws.reverts_carry_out_again.Goals as goal

pub returns-clause-leads : goal.returns-clause-leads
returns-clause-leads c start done own number rise = planned start done own number rise

pub returns-clause-front : goal.returns-clause-front
returns-clause-front c done number = kept_front done number
