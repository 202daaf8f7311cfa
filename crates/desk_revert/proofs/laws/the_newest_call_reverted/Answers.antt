use Rattle.desk_edit.proofs.Forcing.{newest_back}
use Rattle.desk_revert.proofs.laws.the_newest_call_reverted.Goals as goal

pub returns : goal.returns
returns c start done e own rise = newest_back start done e own rise
