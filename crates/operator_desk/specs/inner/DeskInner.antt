-- What holds whenever nobody has the desk.
use Rattle.std.specs.Prelude.{◌≡◌, ℕ, List, length, Option, None}
use Rattle.logbook.specs.Pages.{Book}
use Rattle.desk_rows.specs.Desk.{Desk}
use Rattle.desk_rows.specs.Edit.{EditOf}
use Rattle.desk_edit.specs.Asked.{CallOf}
use Rattle.desk_calls.specs.Edits.{after}
use Rattle.desk_calls.specs.Desk.{DeskOf, Does}
use Rattle.desk_calls.specs.Following.{HasCalled}
use Rattle.published_desk.specs.Published.{PublisherOf}
use Rattle.operator_desk.specs.Entry.{EntryOf}
use Rattle.operator_desk.specs.LegalLogs.{after_log, IsLegal}
use Rattle.operator_desk.specs.Published.{AreDesks}

-- what lies under the lock: the log, the desk, what is published, an entry behind the log, and the count of calls
pub record InnerOf : Type 0 where
  pub log : List EntryOf
  pub desk : DeskOf
  pub edition : PublisherOf
  pub beyond : Option EntryOf
  pub total : ℕ

-- the log is legal; the desk, what is published and the count of calls are those of the log
pub record IsInner (start : Desk) (publisher : Book) (h : InnerOf) : Type 0 where
  pub legal : IsLegal start h.log
  pub called : HasCalled h.desk (after_log start h.log)
  pub named : h.edition.publisher ≡ publisher
  pub first : h.edition.start ≡ start
  pub desks : AreDesks start h.log h.edition.lists
  pub staged : h.beyond ≡ None → h.edition.staged ≡ None
  pub counted : length h.log ≡ h.total

-- the edits lead from the desk to the one that the call makes of it
abbrev pub Leads : DeskOf → CallOf → List EditOf → Type 0
Leads old call edits = (new : DeskOf) → Does old new call → after old.desk edits ≡ new.desk
