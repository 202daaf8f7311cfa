use Rattle.desk_text.proofs.ExtLemmas.{ext_spelled, ext_read, minus_zero}
use Rattle.desk_text.proofs.laws.ext_words.Goals as goal

pub returns-clause-spelled : goal.returns-clause-spelled
returns-clause-spelled c = ext_spelled

pub returns-clause-read : goal.returns-clause-read
returns-clause-read c = ext_read

pub returns-clause-minus_zero : goal.returns-clause-minus_zero
returns-clause-minus_zero c = minus_zero
