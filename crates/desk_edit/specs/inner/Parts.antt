-- What is planned of a group's commands.
use Rattle.std.specs.Prelude.{◌≡◌, true, List, ◌++◌, length, fold}
use Rattle.undo_log.specs.Timeline.{all_fit}
use Rattle.desk_rows.specs.Desk.{Desk}
use Rattle.desk_rows.specs.Edit.{EditOf}
use Rattle.desk_rows.specs.Exchange.{fits, after}
use Rattle.desk_edit.specs.declared.command.Command.{Command}
use Rattle.desk_edit.specs.Groups.{desk_after_all}

-- behind the edits that were there stand those of the commands, one for each, which lead from the desk to the one after
-- them
pub record Carries (d : Desk) (commands : List Command) (before edits : List EditOf) : Type 0 where
  pub more : List EditOf
  pub all : edits ≡ before ++ more
  pub fit : all_fit fits after d more ≡ true
  pub leads : fold after d more ≡ desk_after_all d commands
  pub each : length more ≡ length commands
