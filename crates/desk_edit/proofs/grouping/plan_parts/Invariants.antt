use Rattle.std.specs.Prelude.{◌≡◌, ◌+◌, ◌≤◌, ◌++◌, true, List, length, fold, vec_len, vec_capacity}
use Rattle.undo_log.specs.Timeline.{all_fit}
use Rattle.desk_rows.specs.Edit.{EditOf}
use Rattle.desk_rows.specs.Exchange.{fits, after}
use Rattle.desk_edit.specs.Commands.{desk_after}
use Rattle.desk_edit.specs.Groups.{part_refused}
use Rattle.desk_edit.proofs.grouping.plan_parts.Given as goal

abbrev pub invariant-loop-command : goal.invariant-loop-command
invariant-loop-command g l = record {
  more : List EditOf;
  few : vec_len l.edits + length l.rest ≡ vec_len l.fn.edits + length l.fn.commands;
  capacity : vec_len l.edits + length l.rest ≤ vec_capacity l.edits;
  room : vec_capacity l.edits ≡ vec_capacity l.fn.edits;
  all : l.edits.items ≡ l.fn.edits.items ++ more;
  fit : all_fit fits after l.fn.rows more ≡ true;
  leads : fold after l.fn.rows more ≡ l.rows;
  to : fold desk_after l.rows l.rest ≡ fold desk_after l.fn.rows l.fn.commands;
  each : length more + length l.rest ≡ length l.fn.commands;
  refused : part_refused (vec_len l.edits) l.rows l.rest ≡ part_refused (vec_len l.fn.edits) l.fn.rows l.fn.commands;
}

abbrev pub decreases-loop-command : goal.decreases-loop-command
decreases-loop-command g l = length l.rest
