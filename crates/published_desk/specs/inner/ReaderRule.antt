-- The rule of what is shown, and what its steps tell.
use Rattle.std.specs.Prelude.{ℕ, ◌≡◌, List, fold, Option, Some, None}
use mathlib.Core.Option.{some}
use mathlib.Core.List.{IsPrefix}
use lib.ListN.{get_elem?}
use Rattle.logbook.specs.Pages.{Book}
use Rattle.desk_rows.specs.Desk.{Desk, blank}
use Rattle.desk_rows.specs.Edit.{EditOf}
use Rattle.published_desk.specs.Published.{NoticeOf, ReaderOf}
use Rattle.published_desk.specs.inner.Page.{Page}
use Rattle.published_desk.specs.declared.rule.Sight.{Sight}

-- the first desk, as its owner has seen it
abbrev pub start_of : Option (Sight Desk NoticeOf) → Desk
start_of None = blank 0
start_of (Some s) = s.start

-- the page was seen, and its desk is the first one
abbrev pub first_sight : Page → Option (Sight Desk NoticeOf)
first_sight page = Some (record { start = page.desk; notice = page.notice })

-- a reader that knows the lists of a notice, with what it has seen itself
abbrev pub reader_of : NoticeOf → Option (Sight Desk NoticeOf) → ReaderOf
reader_of notice v = record { publisher = notice.publisher; start = start_of v; lists = notice.lists }

-- the page goes on from what was seen
abbrev pub IsLater : Desk → Option (Sight Desk NoticeOf) → Page → Type 0
IsLater start None page = Unit {0}
IsLater start (Some s) page =
    (s.start ≡ start) × (page.notice.publisher ≡ s.notice.publisher) × IsPrefix s.notice.lists page.notice.lists

-- the lists lead from a first desk to the page's, and they go on from what each owner has seen
abbrev pub Kept : (Desk → List EditOf → Desk) → Page → List (Option (Sight Desk NoticeOf)) → Type 0
Kept step page views =
    (start : Desk) × (page.desk ≡ fold step start page.notice.lists)
    × ((seat : ℕ) (v : Option (Sight Desk NoticeOf)) → get_elem? views seat ≡ some v → IsLater start v page)

-- the page that is shown was seen
abbrev pub Sees : (Desk → List EditOf → Desk) → Option (Sight Desk NoticeOf) → Page → Page
    → Option (Sight Desk NoticeOf) → Type 0
Sees step v x y w =
    (start : Desk) × (w ≡ Some (record { start = start; notice = y.notice })) × IsLater start v y
    × (y.desk ≡ fold step start y.notice.lists)

-- lists of this publisher were seen
abbrev pub IsOf : Book → Option (Sight Desk NoticeOf) → Type 0
IsOf publisher None = ⊥
IsOf publisher (Some s) = s.notice.publisher ≡ publisher
