use Rattle.desk_edit.proofs.Forcing.{never_made}
use Rattle.desk_revert.proofs.laws.reverted_calls_were_never_made.Goals as goal

pub returns : goal.returns
returns c start done own number plain = never_made start done own number plain
