use Rattle.desk_text.proofs.Cuts.{none_left_some}
use Rattle.desk_text.proofs.words.end_of_words.Goals as goal

pub returns-in-Some-clause-end : goal.returns-in-Some-clause-end
returns-in-Some-clause-end c = rw (c.at.ensures, c.in-Some.is) (none_left_some c.args.place c.in-Some.field-0.now)
