use Rattle.trace_laws.proofs.TraceReads.{script_read}
use Rattle.trace_laws.proofs.laws.a_trace_is_read.Goals as goal

pub returns : goal.returns
returns c = script_read
