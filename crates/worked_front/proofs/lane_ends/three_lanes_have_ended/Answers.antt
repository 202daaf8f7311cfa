use Rattle.std.proofs.Common.{◌∙◌, ap}
use Rattle.media_front.specs.LaneFaults.{fault_among}
use Rattle.worked_front.proofs.lane_ends.three_lanes_have_ended.Goals as goal

pub returns-clause-well : goal.returns-clause-well
returns-clause-well g c ends = c.fault_of.ensures ∙ ap fault_among ends

pub returns-clause-stopped : goal.returns-clause-stopped
returns-clause-stopped g c item other ends = c.fault_of.ensures ∙ ap fault_among ends

pub returns-clause-failed : goal.returns-clause-failed
returns-clause-failed g c item other ends = c.fault_of.ensures ∙ ap fault_among ends

pub returns-clause-ran_out : goal.returns-clause-ran_out
returns-clause-ran_out g c item other ends = c.fault_of.ensures ∙ ap fault_among ends
