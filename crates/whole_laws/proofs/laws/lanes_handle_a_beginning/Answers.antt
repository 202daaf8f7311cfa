use Rattle.whole_laws.proofs.KeptLemmas.{handled_begins}
use Rattle.whole_laws.proofs.laws.lanes_handle_a_beginning.Goals as goal

pub returns : goal.returns
returns g c = handled_begins g.P.Pace.answers g.S.Sink.taken
