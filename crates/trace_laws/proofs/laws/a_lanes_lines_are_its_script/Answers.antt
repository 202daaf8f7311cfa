use Rattle.trace_laws.proofs.MarkedLines.{part_marked}
use Rattle.trace_laws.proofs.laws.a_lanes_lines_are_its_script.Goals as goal

pub returns : goal.returns
returns c = part_marked
