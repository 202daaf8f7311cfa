use Rattle.whole_laws.proofs.KeptLemmas.{turns_begin}
use Rattle.whole_laws.proofs.laws.lanes_handle_what_turns_gave.Goals as goal

pub returns : goal.returns
returns g c = turns_begin g.P.Pace.answers g.S.Sink.taken
