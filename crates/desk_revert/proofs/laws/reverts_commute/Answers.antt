use Rattle.desk_edit.proofs.Forcing.{commute}
use Rattle.desk_revert.proofs.laws.reverts_commute.Goals as goal

pub returns : goal.returns
returns c start done first second a b not_a not_b = commute start done first second a b not_a not_b
