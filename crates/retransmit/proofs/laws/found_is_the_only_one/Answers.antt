use Rattle.std.proofs.Common.{◌-◌, length}
use Rattle.retransmit.specs.Window.{window_size, latest}
use Rattle.retransmit.proofs.InARow.{in_a_row-drop, length-latest}
use Rattle.retransmit.proofs.Looked.{found_alone}
use Rattle.retransmit.proofs.laws.found_is_the_only_one.Goals as goal

pub returns : goal.returns
returns c sent number owner p row is =
    found_alone number owner (latest window_size sent) p (in_a_row-drop (length sent - window_size) sent row)
    (length-latest sent) is
