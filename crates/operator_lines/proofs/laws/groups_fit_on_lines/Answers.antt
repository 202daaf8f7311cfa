use Rattle.operator_lines.proofs.ShortLemmas.{all_short}
use Rattle.operator_lines.proofs.laws.groups_fit_on_lines.Goals as goal

pub returns : goal.returns
returns c = all_short
