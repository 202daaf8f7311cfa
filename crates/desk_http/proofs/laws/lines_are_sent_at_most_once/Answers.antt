use Rattle.desk_http.proofs.PendingLineLemmas.{lines-reading}
use Rattle.desk_http.proofs.laws.lines_are_sent_at_most_once.Goals as goal

pub returns : goal.returns
returns c = lines-reading
