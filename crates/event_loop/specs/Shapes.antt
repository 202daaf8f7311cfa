-- What the rounds of a front are (own).
use Rattle.std.specs.Prelude.{◌≡◌, ◌⊎◌, ◌≤◌, ℕ, Bool, true, false, List, [], ◌∷◌, ◌++◌, length, map, Option, Some, None}
use Rattle.std.specs.List.{AllByRecursion, FoldsTo, flat_map}
use mathlib.Core.List.{IsPrefix}
use Rattle.rtp_codec.specs.declared.address.Address.{Address}
use Rattle.desk_rows.specs.Desk.{Desk}
use Rattle.published_desk.specs.Published.{NoticeOf, ReaderOf, after_lists}
use Rattle.ingress.specs.declared.outcome.Outcome.{Outcome}
use Rattle.picture_requests.specs.declared.source.VideoSource.{VideoSource}
use Rattle.picture_requests.specs.Sources.{source_at}
use Rattle.media_front.specs.Fronts.{Arrival}
use Rattle.event_loop.specs.Came.{Came, datagram, other, nothing}
use Rattle.event_loop.specs.Kept.{asked_origin}
use Rattle.event_loop.specs.Turns.{Turn, owed, passed, took, looked, gave_ticks, let_wait, entered_desk, saw_desk}
use Rattle.event_loop.specs.Turns.{wanted_picture, chose_sources, asked_picture, made_report, judged_wake, signalled}

-- how many datagrams a round takes in at most
abbrev pub most_datagrams : ℕ
most_datagrams = 64

-- The sender of the video source whose probation a datagram ended was asked for a picture at the datagram's moment, and
-- nobody if it ended none.
abbrev pub AsksFirst : Address → (moment : ℕ) → (ended : Option ℕ) → List Turn → Type 0
AsksFirst from moment None turns = turns ≡ []
AsksFirst from moment (Some ssrc) turns =
    (sent : Bool)
    × (turns
    ≡ wanted_picture (source_at ssrc from) moment
    ∷ asked_picture (record { address = from; ssrc = ssrc }) moment sent ∷ [])

-- A datagram was read and taken in at these rows, and then a picture was asked for if it ended a probation.
pub record IsTakenAt (desk : Desk) (turns : List Turn) : Type 0 where
  pub late : Bool
  pub arrival : Arrival
  pub outcome : Outcome
  pub ended : Option ℕ
  pub asked : List Turn
  pub rows : arrival.desk ≡ desk
  pub first : AsksFirst arrival.from arrival.moment ended asked
  pub are : turns ≡ took late arrival outcome ended ∷ asked

-- One read: a datagram was taken in at these rows, or something else was read.
abbrev pub IsTaken : Desk → List Turn → Type 0
IsTaken desk turns = IsTakenAt desk turns ⊎ (turns ≡ passed other ∷ [])

-- A datagram or something else was read.
abbrev pub IsSomething : Came → Type 0
IsSomething (datagram from octets) = Unit {0}
IsSomething other = Unit {0}
IsSomething nothing = ⊥

-- One read: a datagram or something else was read, and not taken in.
abbrev pub IsPassed : List Turn → Type 0
IsPassed turns = (came : Came) × IsSomething came × (turns ≡ passed came ∷ [])

-- a source was asked for a picture at this moment, if its address had tokens
abbrev pub picture_at : (moment : ℕ) → VideoSource × Bool → Turn
picture_at moment asked = asked_picture (asked_origin asked.0) moment asked.1

-- The sources that were due at this moment were asked for pictures, one after another, and no other source.
pub record AreAsked (moment : ℕ) (turns : List Turn) : Type 0 where
  pub asked : List (VideoSource × Bool)
  pub are : turns ≡ chose_sources moment (map (λ a. a.0) asked) ∷ map (picture_at moment) asked

-- A version of the desk was seen at this moment, and then the sources were asked for pictures that were due.
pub record AsksDue (version : ℕ) (desk : Desk) (moment : ℕ) (turns : List Turn) : Type 0 where
  pub later : Bool
  pub rest : List Turn
  pub asked : AreAsked moment rest
  pub are : turns ≡ saw_desk later version desk moment ∷ rest

-- the last read found nothing, or there was none
abbrev pub found_nothing : Bool → List Turn
found_nothing true = passed nothing ∷ []
found_nothing false = []

-- All that waited was read, by up to 64 reads, and this was done at each.
pub record AreAllRead (Is : List Turn → Type 0) (turns : List Turn) : Type 0 where
  pub reads : List (List Turn)
  pub each : AllByRecursion Is reads
  pub few : length reads ≤ most_datagrams
  pub dry : Bool
  pub whole : dry ≡ false → length reads ≡ most_datagrams
  pub are : turns ≡ flat_map (λ turns. turns) reads ++ found_nothing dry

-- time passed for the video sources, where a tick was due
abbrev pub waits : Bool → Desk → (moment : ℕ) → List Turn
waits true desk moment = let_wait desk moment ∷ []
waits false desk moment = []

-- What is due at this moment: ticks, and where one was due a wait of each video source, then pictures and reports.
pub record IsDue (version : ℕ) (desk : Desk) (moment : ℕ) (turns : List Turn) : Type 0 where
  pub due : Bool
  pub pictures : List Turn
  pub asked : AsksDue version desk moment pictures
  pub report : Bool
  pub are : turns
      ≡ (gave_ticks due moment ∷ waits due desk moment) ++ (pictures ++ made_report report desk moment ∷ [])

-- All that waited was taken in at the rows of this version, and then came what was due at one moment.
pub record IsTaking (version : ℕ) (desk : Desk) (turns : List Turn) : Type 0 where
  pub reads : List Turn
  pub read : AreAllRead (IsTaken desk) reads
  pub moment : ℕ
  pub rest : List Turn
  pub due : IsDue version desk moment rest
  pub are : turns ≡ entered_desk desk ∷ (reads ++ looked moment ∷ rest)

-- Without rows, what waited was read and not taken in, and the ticks were given that were due.
pub record IsPassing (turns : List Turn) : Type 0 where
  pub reads : List Turn
  pub read : AreAllRead IsPassed reads
  pub moment : ℕ
  pub due : Bool
  pub are : turns ≡ reads ++ looked moment ∷ gave_ticks due moment ∷ []

-- An entry of the same publisher, at no earlier version.
abbrev pub IsEntryOf : ReaderOf → ReaderOf → Type 0
IsEntryOf old new = (new.publisher ≡ old.publisher) × (new.start ≡ old.start) × IsPrefix old.lists new.lists

-- By a reader, these turns took in what came: at the rows of one entry, or without rows, if the publisher has ended.
abbrev pub IsEntered : ReaderOf → Option ReaderOf → List Turn → Type 0
IsEntered old (Some new) turns =
    (IsEntryOf old new × IsTaking (length new.lists) (after_lists new.start new.lists) turns)
    ⊎ ((new ≡ old) × IsPassing turns)
IsEntered old None turns = ⊥

-- The same of a front that has a reader.
abbrev pub IsTakenIn : Option ReaderOf → Option ReaderOf → List Turn → Type 0
IsTakenIn (Some old) new turns = IsEntered old new turns
IsTakenIn None new turns = ⊥

-- the signals were raised, or not
abbrev pub signals : Bool → List Turn
signals true = signalled ∷ []
signals false = []

-- One round: the notice first, then what had come and what was due at the rows of one entry, and then the signals, if
-- they were due.
pub record IsRound (notice : NoticeOf) (old new : Option ReaderOf) (turns : List Turn) : Type 0 where
  pub entry : List Turn
  pub entered : IsTakenIn old new entry
  pub wake : ℕ
  pub raised : Bool
  pub are : turns ≡ owed notice ∷ (entry ++ looked wake ∷ judged_wake wake raised ∷ signals raised)

-- Before a round, the front looked at its watch and slept.
pub record IsRoundAfterSleep (old : Option ReaderOf) (turns : List Turn) (new : Option ReaderOf) : Type 0 where
  pub slept : ℕ
  pub notice : NoticeOf
  pub rest : List Turn
  pub round : IsRound notice old new rest
  pub are : turns ≡ looked slept ∷ rest

-- The turns are whole rounds, one after another: each reader is that of the round before.
abbrev pub AreRounds : Option ReaderOf → Option ReaderOf → List Turn → Type 0
AreRounds old new turns =
    (rounds : List (List Turn)) × (turns ≡ flat_map (λ turns. turns) rounds) × FoldsTo IsRoundAfterSleep old rounds new

-- All rounds but the last are whole.
abbrev pub BeginAsRounds : Option ReaderOf → List Turn → Type 0
BeginAsRounds old turns =
    (whole : List Turn) × (rest : List Turn) × (mid : Option ReaderOf)
    × (turns ≡ whole ++ rest) × AreRounds old mid whole
