use Rattle.std.proofs.Common.{rules}
use Rattle.hex.specs.Hex.{encode_with}
use Rattle.std.specs.Fmt.{digits}
use Rattle.worked_bridge.proofs.printing.prints_a_note.Goals as goal

pub returns : goal.returns
unfolding digits encode_with
returns c = search rules
