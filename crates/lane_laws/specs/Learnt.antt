-- Lanes whose entries saw beginnings of one list of publishes (own).
use Rattle.std.specs.Prelude.{◌≡◌, ℕ, Bool, true, List, [], ◌∷◌, map, Some}
use Rattle.std.specs.List.{All, AllByRecursion, Contains}
use mathlib.Core.List.{IsPrefix}
use Rattle.logbook.specs.Pages.{Book}
use Rattle.desk_rows.specs.Desk.{Desk, good}
use Rattle.desk_rows.specs.Edit.{EditOf}
use Rattle.published_desk.specs.Published.{NoticeOf}
use Rattle.bridge_core.specs.Events.{Event}
use Rattle.operator_desk.specs.Entry.{EntryOf}
use Rattle.operator_desk.specs.LegalLogs.{calls_of, IsLegal}
use Rattle.operator_desk.specs.Published.{AreDesks}
use Rattle.media_workers.specs.declared.lane_end.LaneEnd.{LaneEnd}
use Rattle.media_workers.specs.declared.lane_item.LaneItem.{LaneItem}
use Rattle.media_workers.specs.declared.parcel.Parcel.{Parcel}
use Rattle.media_workers.specs.declared.parcel.Parcel.TheVariants.{Work}
use Rattle.media_workers.specs.LaneRuns.{LaneNow, Served, Versioned, versioned}
use Rattle.media_workers.specs.Ports.{PortOf}
use Rattle.media_workers.specs.Bridges.{Taking, EndsAs, AreNew, AllEnded}
use Rattle.lane_laws.specs.Merges.{merge}

-- one of these parcels has a notice of these lists
abbrev pub HasNotice : List (List EditOf) → List Parcel → Type 0
HasNotice lists parcels =
    (item : LaneItem) × (notice : NoticeOf) × Contains parcels (Work item (Some notice)) × (notice.lists ≡ lists)

-- Each item of the lane was handled at a version of these lists: what its entry saw is a beginning of them.
abbrev pub HasSeen : {N P S : Type 0} (lists : List (List EditOf)) (answers : P → ℕ → Bool → Type 0) (taken : Taking S)
    (port : PortOf P S) (end : LaneEnd N S) → EndsAs answers taken port end → Type 0
HasSeen lists answers taken port end ended = AllByRecursion (λ (s : Served). IsPrefix s.lists lists) ended.ran.served

-- The same of each lane.
abbrev pub AllSeen : {N P S : Type 0} (lists : List (List EditOf)) (answers : P → ℕ → Bool → Type 0) (taken : Taking S)
    (ports : List (PortOf P S)) (ends : List (LaneEnd N S)) → AllEnded answers taken ports ends → Type 0
AllSeen lists answers taken [] [] ended = Unit {0}
AllSeen lists answers taken [] (e ∷ es) ended = ⊥
AllSeen lists answers taken (p ∷ ps) [] ended = ⊥
AllSeen lists answers taken (p ∷ ps) (e ∷ es) ended =
    HasSeen lists answers taken p e ended.0 × AllSeen lists answers taken ps es ended.1

-- What each lane's reader knew at the end is a beginning of these lists.
abbrev pub HaveKnown : {N S : Type 0} → List (List EditOf) → List (LaneEnd N S) → Type 0
HaveKnown {N} {S} lists ends = AllByRecursion (λ (end : LaneEnd N S). IsPrefix end.known.lists lists) ends

-- the lanes as they were handed in
abbrev pub lanes_of : {P S : Type 0} → List (PortOf P S) → List LaneNow
lanes_of ports = map (λ p. p.lane) ports

-- The readers of all these lanes begin with this desk.
abbrev pub AllBegin : Desk → List LaneNow → Type 0
AllBegin start lanes = All (λ (lane : LaneNow). lane.reader.start ≡ start) lanes

-- The readers of all these lanes are of this publisher.
abbrev pub AllRead : Book → List LaneNow → Type 0
AllRead publisher lanes = All (λ (lane : LaneNow). lane.reader.publisher ≡ publisher) lanes

-- Lanes whose readers are of this publisher have ended so.
abbrev pub HaveEnded : {N P S : Type 0} → (P → ℕ → Bool → Type 0) → Taking S → Book → List (LaneEnd N S) → Type 0
HaveEnded {N} {P} {S} answers taken publisher ends =
    (ports : List (PortOf P S)) × AllEnded answers taken ports ends × AllRead publisher (lanes_of ports)

-- the items that each lane handled, with their versions
abbrev pub handled : {N P S : Type 0} (answers : P → ℕ → Bool → Type 0) (taken : Taking S) (ports : List (PortOf P S))
    (ends : List (LaneEnd N S)) → AllEnded answers taken ports ends → List (List Versioned)
handled answers taken [] [] ended = []
handled answers taken [] (e ∷ es) ended = []
handled answers taken (p ∷ ps) [] ended = []
handled answers taken (p ∷ ps) (e ∷ es) ended = map versioned ended.0.ran.served ∷ handled answers taken ps es ended.1

-- The lanes of one bridge have ended beside this log: the log is legal, some lists lead to its desks, and what each
-- entry of a lane saw is a beginning of these lists.
pub record EndedAfter {N P S : Type 0} (answers : P → ℕ → Bool → Type 0) (taken : Taking S) (start : Desk)
    (log : List EntryOf) (ports : List (PortOf P S)) (ends : List (LaneEnd N S)) : Type 0 where
  pub first : good start ≡ true
  pub legal : IsLegal start log
  pub lists : List (List EditOf)
  pub desks : AreDesks start log lists
  pub new : AreNew (lanes_of ports)
  pub begin : AllBegin start (lanes_of ports)
  pub ended : AllEnded answers taken ports ends
  pub seen : AllSeen lists answers taken ports ends ended

-- the calls of the log and the items that the lanes handled, in one list
abbrev pub merged : {N P S : Type 0} {answers : P → ℕ → Bool → Type 0} {taken : Taking S} {start : Desk}
    {log : List EntryOf} {ports : List (PortOf P S)} {ends : List (LaneEnd N S)} →
    EndedAfter answers taken start log ports ends → List Event
merged {N} {P} {S} {answers} {taken} {start} {log} {ports} {ends} h =
    merge (calls_of log) (handled answers taken ports ends h.ended)
