use Rattle.operator_lines.proofs.WholeLemmas.{whole, apart}
use Rattle.operator_lines.proofs.laws.cuts_are_whole.Goals as goal

pub returns-clause-whole : goal.returns-clause-whole
returns-clause-whole c = whole

pub returns-clause-ended : goal.returns-clause-ended
returns-clause-ended c stream = (apart stream).0

pub returns-clause-rest : goal.returns-clause-rest
returns-clause-rest c stream = (apart stream).1
