-- What a publisher has published, and what its readers know of it (own).
use Rattle.std.specs.Prelude.{ℕ, List, [], Option, None, fold}
use Rattle.logbook.specs.Pages.{Book}
use Rattle.undo_log.specs.Lists.{after_all}
use Rattle.desk_rows.specs.Desk.{Desk}
use Rattle.desk_rows.specs.Edit.{EditOf}
use Rattle.desk_rows.specs.Exchange.{fits, after}

-- the most readers of a publisher
abbrev pub reader_limit : ℕ
reader_limit = 17

-- the desk after a list of edits: after all of them in turn, or unchanged if one doesn't fit after those before it
abbrev pub after_list : Desk → List EditOf → Desk
after_list desk edits = after_all fits after desk edits

-- the desk after these lists, one after another: version n is the first desk after the first n lists
abbrev pub after_lists : Desk → List (List EditOf) → Desk
after_lists start lists = fold after_list start lists

-- a notice: the name of its publisher, and the lists that lead to the version that it tells of
pub record NoticeOf : Type 0 where
  pub publisher : Book
  pub lists : List (List EditOf)

-- a reader or an entry: the name of its publisher, the first desk, and the lists that the reader knows or that lead to
-- the entry
pub record ReaderOf : Type 0 where
  pub publisher : Book
  pub start : Desk
  pub lists : List (List EditOf)

-- a reader that knows no list yet
abbrev pub new_reader : Book → Desk → ReaderOf
new_reader publisher start = record { publisher = publisher; start = start; lists = [] }

-- a publisher: its name, the first desk, the lists that were published, and the list that is staged
pub record PublisherOf : Type 0 where
  pub publisher : Book
  pub start : Desk
  pub lists : List (List EditOf)
  pub staged : Option (List EditOf)

-- a publisher that has published nothing
abbrev pub new_publisher : Book → Desk → PublisherOf
new_publisher publisher start = record { publisher = publisher; start = start; lists = []; staged = None }
