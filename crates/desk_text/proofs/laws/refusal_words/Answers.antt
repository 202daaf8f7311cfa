use Rattle.desk_text.proofs.JudgedLaws.{asked, rising, group, revert, part}
use Rattle.desk_text.proofs.laws.refusal_words.Goals as goal

pub returns-clause-first : goal.returns-clause-first
returns-clause-first c = asked

pub returns-clause-rising : goal.returns-clause-rising
returns-clause-rising c = rising

pub returns-clause-group : goal.returns-clause-group
returns-clause-group c = group

pub returns-clause-part : goal.returns-clause-part
returns-clause-part c = part

pub returns-clause-revert : goal.returns-clause-revert
returns-clause-revert c = revert
