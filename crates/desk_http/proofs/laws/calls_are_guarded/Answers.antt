use Rattle.desk_http.proofs.GuardLemmas.{call-passes}
use Rattle.desk_http.proofs.laws.calls_are_guarded.Goals as goal

pub returns : goal.returns
returns c = call-passes
