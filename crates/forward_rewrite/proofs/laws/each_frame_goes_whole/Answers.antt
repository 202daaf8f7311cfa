use Rattle.forward_rewrite.proofs.Whole.{goes_whole}
use Rattle.forward_rewrite.proofs.laws.each_frame_goes_whole.Goals as goal

pub returns-clause-whole : goal.returns-clause-whole
returns-clause-whole c = goes_whole
