use Rattle.trace_laws.proofs.TraceSends.{script_sends}
use Rattle.trace_laws.proofs.laws.a_trace_sends_what_its_lane_sent.Goals as goal

pub returns : goal.returns
returns c = script_sends
