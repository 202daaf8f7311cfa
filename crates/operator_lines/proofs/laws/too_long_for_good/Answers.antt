use Rattle.operator_lines.proofs.CutLemmas.{stays_too_long}
use Rattle.operator_lines.proofs.laws.too_long_for_good.Goals as goal

pub returns-clause-stays : goal.returns-clause-stays
returns-clause-stays c before octets h = (stays_too_long before octets h).0

pub returns-clause-no_line : goal.returns-clause-no_line
returns-clause-no_line c before octets h = (stays_too_long before octets h).1
