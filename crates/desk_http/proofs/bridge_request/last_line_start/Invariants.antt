-- What lies from `start` on has no LF.
use Rattle.std.proofs.Common.{◌≡◌, ◌+◌, ◌≤◌, length, take}
use Rattle.std.specs.List.{suffix_len}
use Rattle.desk_http.specs.BridgeRequests.{is_not_lf}
use Rattle.desk_http.proofs.bridge_request.last_line_start.Given as goal

abbrev pub invariant-loop-start : goal.invariant-loop-start
invariant-loop-start l =
    (l.start ≤ length l.text)
    × (l.start + suffix_len is_not_lf l.text ≡ length l.text + suffix_len is_not_lf (take l.start l.text))

abbrev pub decreases-loop-start : goal.decreases-loop-start
decreases-loop-start l = l.start
