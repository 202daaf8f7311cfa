-- Published lists of edits that lead to the desks of a log (own).
use Rattle.std.specs.Prelude.{◌≡◌, ℕ, ◌≤◌, List, length, take}
use Rattle.desk_rows.specs.Desk.{Desk}
use Rattle.desk_rows.specs.Edit.{EditOf}
use Rattle.desk_edit.specs.Calls.{desk_now}
use Rattle.published_desk.specs.Published.{after_lists}
use Rattle.operator_desk.specs.Entry.{EntryOf}
use Rattle.operator_desk.specs.LegalLogs.{after_log}

-- there are as many lists as calls, and the first n lists lead to the desk after the first n calls
pub record AreDesks (start : Desk) (log : List EntryOf) (lists : List (List EditOf)) : Type 0 where
  pub many : length lists ≡ length log
  pub lead : (n : ℕ) → n ≤ length log → after_lists start (take n lists) ≡ desk_now (after_log start (take n log))
