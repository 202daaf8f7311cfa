use Rattle.desk_text.proofs.AddressLemmas.{address_spelled, address_again}
use Rattle.desk_text.proofs.laws.address_words.Goals as goal

pub returns-clause-spelled : goal.returns-clause-spelled
returns-clause-spelled c = address_spelled

pub returns-clause-read : goal.returns-clause-read
returns-clause-read c = address_again
