-- The count is within both texts.
use Rattle.std.proofs.Common.{◌≤◌, ◌-◌, length}
use Rattle.desk_http.proofs.text_edit.common_end.Given as goal

abbrev pub invariant-loop-count : goal.invariant-loop-count
invariant-loop-count l = (l.count ≤ length l.one) × (l.count ≤ length l.other)

abbrev pub decreases-loop-count : goal.decreases-loop-count
decreases-loop-count l = length l.one - l.count
