use Rattle.operator_connection.proofs.LawLemmas.{deeds_go_on, seated_go_on}
use Rattle.operator_connection.proofs.laws.what_is_said_goes_on.Goals as goal

pub returns-clause-alone : goal.returns-clause-alone
returns-clause-alone g c deeds old new done stream = deeds_go_on deeds old new stream done

pub returns-clause-seated : goal.returns-clause-seated
returns-clause-seated g c deeds old new done stream =
    seated_go_on g.D.LineDesk.replies g.D.LineDesk.shows deeds old new stream done
