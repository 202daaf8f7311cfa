use Rattle.std.proofs.Common.{rules}
use Rattle.std.specs.Fmt.{digits}
use Rattle.worked_bridge.proofs.printing.prints_a_full_table.Goals as goal

pub returns : goal.returns
unfolding digits
returns c = search rules
