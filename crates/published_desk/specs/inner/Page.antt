-- What is shown of a version.
use Rattle.std.specs.Prelude.{List, Option}
use Rattle.desk_rows.specs.Desk.{Desk}
use Rattle.desk_rows.specs.Edit.{EditOf}
use Rattle.published_desk.specs.Published.{NoticeOf}
use Rattle.published_desk.specs.declared.rule.Sight.{Sight}

-- a version: its notice, and its rows
pub record Page : Type 0 where
  pub notice : NoticeOf
  pub desk : Desk

-- the page after a list of edits, which is the last one of the notice
abbrev pub next_page : (Desk → List EditOf → Desk) → Page → List EditOf → NoticeOf → Page
next_page step page edits notice = record { notice = notice; desk = step page.desk edits }

-- what shows editions: the page that is shown, what its owner has seen of it, and the edits that the other copy lacks
pub record ShowingOf : Type 0 where
  pub page : Page
  pub seen : Option (Sight Desk NoticeOf)
  pub lacking : List EditOf
