-- What is true of every desk with its calls (own).
use Rattle.std.specs.Prelude.{◌≡◌, true, ℕ, ◌≤◌, ◌++◌, List, length, min, reverse}
use Rattle.undo_log.specs.Timeline.{Timeline}
use Rattle.desk_rows.specs.Desk.{Desk, good}
use Rattle.desk_rows.specs.Edit.{EditOf}
use Rattle.desk_edit.specs.Calls.{call_limit}
use Rattle.desk_revert.specs.Sound.{AreNumbered}
use Rattle.desk_calls.specs.Desk.{DeskOf}
use Rattle.desk_calls.specs.Following.{HasCalled}
use Rattle.desk_calls.specs.inner.Kept.{EntriesOf}

-- a desk by its version, its edits and its entries
abbrev pub desk_seen : ℕ → Timeline Desk (List EditOf) → EntriesOf → DeskOf
desk_seen version t entries = record {
  version = version;
  history = record { start = t.start; done = entries.done; undone = entries.undone; accepted = version };
  desk = t.state;
  done = t.done;
  undone = t.undone;
  spare = min t.spare entries.spare;
}

-- the desk is good, and where its calls lead; its entries have the numbers of accepted calls; no more calls are done
-- than were accepted, and these are no more than the limit
pub record IsSound (d : DeskOf) : Type 0 where
  pub good : good d.desk ≡ true
  pub fewer : length d.done ≤ d.version
  pub limit : d.version ≤ call_limit
  pub numbered : AreNumbered d.version (d.history.undone ++ reverse d.history.done)
  pub called : HasCalled d d.history
