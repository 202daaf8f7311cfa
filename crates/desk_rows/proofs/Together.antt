-- Lemmas that are used together.
use Rattle.desk_rows.proofs.Counts.{length_of_both}
use Rattle.desk_rows.proofs.Halving.{order_of_rest}
use Rattle.desk_rows.proofs.Loops.{before_all}
use Rattle.desk_rows.proofs.Merging.{put_in_turn}
use Rattle.desk_rows.proofs.SlidingLemmas.{front_passes, rest_in_order}

-- what goes and what comes, in order
pub ruleset in_turn = (put_in_turn, rest_in_order, length_of_both)

-- the rows before a row, and those behind it
pub ruleset parted = (order_of_rest, before_all, front_passes)
