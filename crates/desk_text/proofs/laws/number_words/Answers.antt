use Rattle.desk_text.proofs.NumberLemmas.{spelled, read}
use Rattle.desk_text.proofs.laws.number_words.Goals as goal

pub returns-clause-spelled : goal.returns-clause-spelled
returns-clause-spelled c = spelled

pub returns-clause-read : goal.returns-clause-read
returns-clause-read c = read
