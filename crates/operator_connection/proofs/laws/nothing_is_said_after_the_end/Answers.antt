use Rattle.operator_connection.proofs.LawLemmas.{seated_end}
use Rattle.operator_connection.proofs.laws.nothing_is_said_after_the_end.Goals as goal

pub returns : goal.returns
returns g c deeds old new done ended =
    seated_end g.D.LineDesk.replies g.D.LineDesk.shows deeds old new ended done
