-- What is done on an operator's connection, one thing after another (own).
use Rattle.std.specs.Prelude.{◌≡◌, ◌⊎◌, ◌≤◌, ℕ, nat_lt, Bool, true, false, ◌&&◌, List, [], ◌∷◌, ◌++◌}
use Rattle.std.specs.Prelude.{length, take, map, Option, Some, None}
use Rattle.std.specs.Bool.{MatchBool}
use Rattle.std.specs.List.{FoldsTo}
use Rattle.operator_lines.specs.Fed.{StandsFor, Brings}
use Rattle.operator_lines.specs.Outbound.{piece}
use Rattle.operator_lines.specs.DeskAsk.{news}
use Rattle.operator_lines.specs.Operators.{Replying, TimedReplying, Showing, AppendsReply, busy_line}
use Rattle.operator_lines.specs.declared.answering.Next.TheVariants.{Stay}
use Rattle.operator_connection.specs.declared.talking.Came.{Came}
use Rattle.operator_connection.specs.declared.talking.LinkState.{LinkState}
use Rattle.operator_connection.specs.declared.talking.LinkState.TheVariants.{Ending, Lost}
use Rattle.operator_connection.specs.declared.greeting.Greeted.{Greeted}
use Rattle.operator_connection.specs.declared.greeting.Greeted.TheVariants as greeted
use Rattle.operator_connection.specs.Acts.{wrote, octet_count}
use Rattle.operator_connection.specs.Connection.{Heeded, Connection, is_heard, is_owed, unless_stopped}
use Rattle.operator_connection.specs.Connection.{HasWaited, HasLooked, NotesStop, HasRead, IsHeardAt}
use Rattle.operator_connection.specs.Readiness.{not_after}
use Rattle.operator_connection.specs.Talking.{is_open, after_line, after_write, since_write, left_after}
use Rattle.operator_connection.specs.Talking.{AnswersOctets, AnswersAll, AnswersSome, BreaksOff}
use Rattle.operator_connection.specs.Greeting.{GreetsAll}

-- what waits was offered to the socket, 65,536 octets at most
pub record HasOffered (moment : ℕ) (old new : Connection) : Type 0 where
  pub came : Came
  pub few : octet_count came ≤ length (take piece old.waiting)
  pub acts : new.acts ≡ old.acts ++ wrote came (take piece old.waiting) ∷ []
  pub ready : new.ready ≡ record old.ready { writable = not_after came old.ready.writable }
  pub waiting : new.waiting ≡ left_after came old.waiting
  pub standing : new.standing ≡ after_write came old.standing
  pub since : new.since ≡ since_write came old.standing moment old.since
  pub kept : new.kept ≡ old.kept
  pub heeded : new.heeded ≡ old.heeded

-- the same where something waits and the socket may take it, and else nothing
abbrev pub HasWritten : ℕ → Connection → Connection → Type 0
HasWritten moment old new = MatchBool (old.ready.writable && is_owed old) (HasOffered moment old new) (new ≡ old)

-- the lines that wait for a seat after octets were heard without one
abbrev pub heeded_by : Greeted → List (List ℕ) → Bool → Option Heeded → Option Heeded
heeded_by greeted.Nothing lines too_long before = before
heeded_by greeted.Good lines too_long before = Some (record { lines = lines; too_long = too_long })
heeded_by greeted.Faulty lines too_long before = before
heeded_by greeted.Stopped lines too_long before = before

-- the bridge was found to be stopped
abbrev pub was_stopped : Greeted → Bool
was_stopped greeted.Nothing = false
was_stopped greeted.Good = false
was_stopped greeted.Faulty = false
was_stopped greeted.Stopped = true

-- The first line that octets end was dealt with without a seat.
pub record GreetsPiece (octets : List ℕ) (old new : Connection) : Type 0 where
  pub greeted : Greeted
  pub lines : List (List ℕ)
  pub too_long : Bool
  pub standing : LinkState
  pub brings : (before : List ℕ) → StandsFor old.kept before → Brings before octets lines too_long
  pub stands : (before : List ℕ) → StandsFor old.kept before → StandsFor new.kept (before ++ octets)
  pub greets : GreetsAll lines too_long greeted old.waiting new.waiting old.standing standing
  pub after : new.standing ≡ unless_stopped (was_stopped greeted) standing
  pub heeded : new.heeded ≡ heeded_by greeted lines too_long old.heeded

-- Memory ran out. Nothing was answered.
pub record LosesGreeting (old new : Connection) : Type 0 where
  pub lost : new.standing ≡ Lost
  pub waiting : new.waiting ≡ old.waiting
  pub heeded : new.heeded ≡ old.heeded

-- Octets were heard without a seat.
pub record GreetsOctets (moment : ℕ) (octets : List ℕ) (old new : Connection) : Type 0 where
  pub greeted : GreetsPiece octets old new ⊎ LosesGreeting old new
  pub at : IsHeardAt moment old new

-- A read was made, and if it brought octets, they were heard without a seat.
pub record GreetsRead (moment : ℕ) (old new : Connection) : Type 0 where
  pub came : Came
  pub octets : List ℕ
  pub mid : Connection
  pub read : HasRead came octets moment old mid
  pub greets : MatchBool (nat_lt 0 (octet_count came)) (GreetsOctets moment octets mid new) (new ≡ mid)

-- the same where octets may have come, and else nothing
abbrev pub HasGreeted : ℕ → Connection → Connection → Type 0
HasGreeted moment old new = MatchBool (old.ready.readable && is_heard old) (GreetsRead moment old new) (new ≡ old)

-- The line `busy` refuses a seat and ends the connection, unless memory runs out, which loses it.
abbrev pub RefusesOpen : Connection → Connection → Type 0
RefusesOpen old new =
    ((new.waiting ≡ old.waiting ++ busy_line) × (new.standing ≡ Ending))
    ⊎ ((new.waiting ≡ old.waiting) × (new.standing ≡ Lost))

-- The lines that wait for a seat get none.
pub record RefusesSeat (moment : ℕ) (old new : Connection) : Type 0 where
  pub told : MatchBool (is_open old.standing) (RefusesOpen old new × (new.since ≡ moment))
      ((new.waiting ≡ old.waiting) × (new.standing ≡ old.standing) × (new.since ≡ old.since))
  pub acts : new.acts ≡ old.acts
  pub ready : new.ready ≡ old.ready
  pub kept : new.kept ≡ old.kept
  pub heeded : new.heeded ≡ None

-- one thing that is done on a connection without a desk
pub data Deed : Type 0 where
  -- its socket was waited for, or the system failed
  waits : Option Bool → Deed
  -- its clock told a moment, or failed
  looks : Option ℕ → Deed
  -- the bridge was found to be stopped
  stops : (moment : ℕ) → Deed
  -- what may have come was read and heard without a seat
  greets : (moment : ℕ) → Deed
  -- the lines that wait for a seat were refused one
  refuses : (moment : ℕ) → Deed
  -- what waits was written, as far as the socket takes it
  writes : (moment : ℕ) → Deed

-- this was done, and nothing else
abbrev pub IsDeed : Connection → Deed → Connection → Type 0
IsDeed old (waits any) new = HasWaited any old new
IsDeed old (looks moment) new = HasLooked moment old new
IsDeed old (stops moment) new = NotesStop moment old new
IsDeed old (greets moment) new = HasGreeted moment old new
IsDeed old (refuses moment) new = RefusesSeat moment old new
IsDeed old (writes moment) new = HasWritten moment old new

-- these were done, one after another, and nothing else
abbrev pub AreDeeds : List Deed → Connection → Connection → Type 0
AreDeeds deeds old new = FoldsTo IsDeed old deeds new

-- The lines that octets end were answered by a desk.
pub record AnswersPiece {D : Type 0} (replies : Replying D) (shows : Showing D) (octets : List ℕ) (d d' : D)
    (old new : Connection) : Type 0 where
  pub stopped : Bool
  pub standing : LinkState
  pub answers : (before : List ℕ) → StandsFor old.kept before
      → AnswersOctets replies shows before octets d d' old.waiting new.waiting standing stopped
  pub stands : (before : List ℕ) → StandsFor old.kept before → StandsFor new.kept (before ++ octets)
  pub after : new.standing ≡ unless_stopped stopped standing

-- Memory ran out behind some of the answers.
pub record LosesPiece {D : Type 0} (replies : Replying D) (shows : Showing D) (octets : List ℕ) (d : D)
    (old new : Connection) : Type 0 where
  pub lost : new.standing ≡ Lost
  pub broke : (before : List ℕ) → StandsFor old.kept before
      → BreaksOff replies shows before octets d old.waiting new.waiting

-- Octets were heard with a seat.
pub record HearsPiece {D : Type 0} (replies : Replying D) (shows : Showing D) (moment : ℕ) (octets : List ℕ) (d d' : D)
    (old new : Connection) : Type 0 where
  pub heard : AnswersPiece replies shows octets d d' old new ⊎ LosesPiece replies shows octets d old new
  pub at : IsHeardAt moment old new
  pub heeded : new.heeded ≡ old.heeded

-- A read was made, and if it brought octets, they were heard with a seat.
pub record HearsRead {D : Type 0} (replies : Replying D) (shows : Showing D) (moment : ℕ) (d d' : D)
    (old new : Connection) : Type 0 where
  pub came : Came
  pub octets : List ℕ
  pub mid : Connection
  pub read : HasRead came octets moment old mid
  pub hears : MatchBool (nat_lt 0 (octet_count came)) (HearsPiece replies shows moment octets d d' mid new)
      ((d' ≡ d) × (new ≡ mid))

-- the same where octets may have come, and else nothing
abbrev pub HasHeard : {D : Type 0} → Replying D → Showing D → ℕ → (d d' : D) → Connection → Connection → Type 0
HasHeard replies shows moment d d' old new =
    MatchBool (old.ready.readable && is_heard old) (HearsRead replies shows moment d d' old new)
    ((d' ≡ d) × (new ≡ old))

-- Lines that waited for a seat were answered by its desk, or memory ran out behind some of the answers.
abbrev pub AnswersHeeded :
    {D : Type 0} → Replying D → Showing D → Heeded → (d d' : D) → Connection → Connection → Type 0
AnswersHeeded replies shows heeded d d' old new =
    ((stopped : Bool) × (standing : LinkState)
    × AnswersAll replies shows heeded.lines heeded.too_long d d' old.waiting new.waiting standing stopped
    × (new.standing ≡ unless_stopped stopped standing))
    ⊎ (AnswersSome replies shows heeded.lines d old.waiting new.waiting × (new.standing ≡ Lost))

-- They are answered if the connection is open, and none waits any more.
pub record TakesHeeded {D : Type 0} (replies : Replying D) (shows : Showing D) (moment : ℕ) (heeded : Heeded) (d d' : D)
    (old new : Connection) : Type 0 where
  pub said : MatchBool (is_open old.standing)
      (AnswersHeeded replies shows heeded d d' old new × (new.since ≡ moment))
      ((d' ≡ d) × (new.waiting ≡ old.waiting) × (new.standing ≡ old.standing) × (new.since ≡ old.since))
  pub acts : new.acts ≡ old.acts
  pub ready : new.ready ≡ old.ready
  pub kept : new.kept ≡ old.kept
  pub none : new.heeded ≡ None

-- The lines that wait for a seat were answered by its desk, if any wait.
abbrev pub HasAnswered :
    {D : Type 0} → Replying D → Showing D → ℕ → Option Heeded → (d d' : D) → Connection → Connection → Type 0
HasAnswered replies shows moment (Some heeded) d d' old new = TakesHeeded replies shows moment heeded d d' old new
HasAnswered replies shows moment None d d' old new = (d' ≡ d) × (new ≡ old)

-- The news of a watch were appended, unless memory ran out, which loses the connection.
abbrev pub TellsOpen : {D : Type 0} → Replying D → (d d' : D) → Connection → Connection → Type 0
TellsOpen replies d d' old new =
    (AppendsReply replies d d' news old.waiting new.waiting × (new.standing ≡ after_line Stay new.waiting))
    ⊎ ((new.waiting ≡ old.waiting) × (new.standing ≡ Lost))

-- The desk was asked for news if the connection is open.
pub record HasToldNews {D : Type 0} (replies : Replying D) (d d' : D) (old new : Connection) : Type 0 where
  pub told : MatchBool (is_open old.standing) (TellsOpen replies d d' old new)
      ((d' ≡ d) × (new.waiting ≡ old.waiting) × (new.standing ≡ old.standing))
  pub acts : new.acts ≡ old.acts
  pub ready : new.ready ≡ old.ready
  pub since : new.since ≡ old.since
  pub kept : new.kept ≡ old.kept
  pub heeded : new.heeded ≡ old.heeded

-- one thing that is done on a connection with a seat
pub data SeatedDeed : Type 0 where
  -- what is done without a desk
  alone : Deed → SeatedDeed
  -- the lines that waited for the seat were answered
  answers : (moment : ℕ) → SeatedDeed
  -- what may have come was read and answered
  hears : (moment : ℕ) → SeatedDeed
  -- the news of a watch were told
  tells : (moment : ℕ) → SeatedDeed

-- this was done on a connection and its desk, and nothing else: the desk is asked at the moment of the round
abbrev pub IsSeatedDeed :
    {D : Type 0} → TimedReplying D → Showing D → D × Connection → SeatedDeed → D × Connection → Type 0
IsSeatedDeed replies shows old (alone deed) new = (new.0 ≡ old.0) × IsDeed old.1 deed new.1
IsSeatedDeed replies shows old (answers moment) new =
    HasAnswered (replies moment) shows moment old.1.heeded old.0 new.0 old.1 new.1
IsSeatedDeed replies shows old (hears moment) new = HasHeard (replies moment) shows moment old.0 new.0 old.1 new.1
IsSeatedDeed replies shows old (tells moment) new = HasToldNews (replies moment) old.0 new.0 old.1 new.1

-- these were done, one after another, and nothing else
abbrev pub AreSeatedDeeds :
    {D : Type 0} → TimedReplying D → Showing D → List SeatedDeed → D × Connection → D × Connection → Type 0
AreSeatedDeeds replies shows deeds old new = FoldsTo (IsSeatedDeed replies shows) old deeds new

-- how a round began: the system failed; or it was waited for, and the clock failed; or the clock told a moment, and the
-- bridge was found to be stopped or not
pub data Beginning : Type 0 where
  wait_failed : Beginning
  look_failed : (any : Bool) → Beginning
  looked_at : (any : Bool) → (moment : ℕ) → (stopped : Bool) → Beginning

-- the moment of the round
abbrev pub moment_of : Beginning → Option ℕ
moment_of wait_failed = None
moment_of (look_failed any) = None
moment_of (looked_at any moment stopped) = Some moment

-- a stop is noted if the bridge was found to be stopped
abbrev pub noted : (stopped : Bool) → (moment : ℕ) → List Deed
noted true moment = stops moment ∷ []
noted false moment = []

-- what was done then
abbrev pub deeds_begun : Beginning → List Deed
deeds_begun wait_failed = waits None ∷ []
deeds_begun (look_failed any) = waits (Some any) ∷ looks None ∷ []
deeds_begun (looked_at any moment stopped) = waits (Some any) ∷ looks (Some moment) ∷ noted stopped moment

-- what a round does without a seat once it has begun
abbrev pub greeted_at : Option ℕ → List Deed
greeted_at None = []
greeted_at (Some moment) = greets moment ∷ writes moment ∷ []

-- a round without a seat
abbrev pub round_alone : Beginning → List Deed
round_alone beginning = deeds_begun beginning ++ greeted_at (moment_of beginning)

-- what a round does with a seat once it has begun
abbrev pub heard_at : Option ℕ → List SeatedDeed
heard_at None = []
heard_at (Some moment) = hears moment ∷ tells moment ∷ alone (writes moment) ∷ []

-- a round with a seat
abbrev pub round_seated : Beginning → List SeatedDeed
round_seated beginning = map alone (deeds_begun beginning) ++ heard_at (moment_of beginning)

-- the first round with a seat: the lines that waited for it are answered
abbrev pub first_seated : Option ℕ → List SeatedDeed
first_seated None = alone (looks None) ∷ []
first_seated (Some moment) = alone (looks (Some moment)) ∷ answers moment ∷ []

-- a seat is refused
abbrev pub refused : Option ℕ → List Deed
refused None = looks None ∷ []
refused (Some moment) = looks (Some moment) ∷ refuses moment ∷ []
