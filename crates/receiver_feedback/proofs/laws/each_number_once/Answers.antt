use Rattle.receiver_feedback.proofs.Once.{once, one_more}
use Rattle.receiver_feedback.proofs.laws.each_number_once.Goals as goal

pub returns-clause-once : goal.returns-clause-once
returns-clause-once c = once

pub returns-clause-one_more : goal.returns-clause-one_more
returns-clause-one_more c = one_more
