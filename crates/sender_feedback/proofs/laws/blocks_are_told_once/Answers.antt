use Rattle.sender_feedback.proofs.ToldOnce.{told_once}
use Rattle.sender_feedback.proofs.laws.blocks_are_told_once.Goals as goal

pub returns : goal.returns
returns c = told_once
