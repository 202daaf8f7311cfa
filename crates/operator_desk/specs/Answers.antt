-- How calls of operators are answered (own).
use Rattle.std.specs.Prelude.{◌≡◌, ◌⊎◌, ℕ, List, [], ◌∷◌, ◌++◌, length, codes, Option, None, IsSome}
use mathlib.Core.List.{IsPrefix}
use Rattle.logbook.specs.Pages.{Book}
use Rattle.desk_rows.specs.Desk.{Desk}
use Rattle.call_history.specs.Stamp.{StampOf}
use Rattle.desk_edit.specs.Asked.{CallOf}
use Rattle.desk_edit.specs.declared.refusal.Refusal.TheVariants.{OutOfMemory}
use Rattle.desk_edit.specs.declared.refusal.Carried.TheVariants.{Nothing}
use Rattle.desk_edit.specs.Told.{Told, told_of}
use Rattle.desk_edit.specs.Calls.{desk_now, refusal_of}
use Rattle.desk_calls.specs.Following.{IsTold}
use Rattle.published_desk.specs.Published.{NoticeOf}
use Rattle.operator_desk.specs.declared.answer.Answer.{Answer}
use Rattle.operator_desk.specs.declared.answer.Answer.TheVariants.{Accepted, Refused}
use Rattle.operator_desk.specs.declared.answer.Why.{Why}
use Rattle.operator_desk.specs.declared.answer.Why.TheVariants as reasons
use Rattle.operator_desk.specs.declared.fault.CallFault.{CallFault}
use Rattle.operator_desk.specs.declared.fault.CallFault.TheVariants.{SeatForeign, Ended}
use Rattle.operator_desk.specs.Entry.{EntryOf}
use Rattle.operator_desk.specs.LegalLogs.{after_log, IsLegal}
use Rattle.operator_desk.specs.OwnCalls.{numbers}
use Rattle.operator_desk.specs.Published.{AreDesks}
use Rattle.operator_desk.specs.Seats.{SeatOf}

-- how a refusal is reported: as that of a desk with one operator, or by a number and name of its own
abbrev pub why_told : Why → Told
why_told (reasons.Told refusal) = told_of refusal
why_told reasons.LogTaken = record { number = 22; name = codes "LogTaken"; carries = Nothing }

-- the notice is of this publisher, and its lists lead to the desks of the log
abbrev pub Tells : Desk → Book → List EntryOf → NoticeOf → Type 0
Tells start publisher log notice = (notice.publisher ≡ publisher) × AreDesks start log notice.lists

-- the notice is that of a legal log
abbrev pub IsNotice : Desk → Book → NoticeOf → Type 0
IsNotice start publisher notice = (log : List EntryOf) × IsLegal start log × Tells start publisher log notice

-- the rows are those after a legal log of this many calls
abbrev pub IsCopy : Desk → ℕ → Desk → Type 0
IsCopy start version rows =
    (log : List EntryOf) × IsLegal start log × (length log ≡ version) × (rows ≡ desk_now (after_log start log))

-- the call is the last one of a legal log that goes on from what the seat had seen, with this stamp; of its operator
-- the log has the calls that the seat had made and this one, and no others. The notice is that of this log
pub record IsAccepted (start : Desk) (publisher : Book) (old new : SeatOf) (call : CallOf) (stamp : StampOf)
    (number : ℕ) (notice : NoticeOf) : Type 0 where
  pub op : new.op ≡ old.op
  pub at : length new.seen ≡ number
  pub legal : IsLegal start new.seen
  pub ends : (between : List EntryOf)
      × (new.seen ≡ (old.seen ++ between) ++ record { op = old.op; call = call; stamp = stamp } ∷ [])
  pub own : numbers old.op new.seen ≡ numbers old.op old.seen ++ number ∷ []
  pub count : length (numbers old.op new.seen) ≡ new.count
  pub tells : Tells start publisher new.seen notice

-- why a call is refused after a log: for a reason of the log's history, because memory ran out and no other reason
-- holds, or because an entry was found behind the log
abbrev pub IsWhy : Desk → List EntryOf → Option EntryOf → CallOf → Why → Type 0
IsWhy start log beyond call (reasons.Told why) =
    IsTold (after_log start log) call why ⊎ ((why ≡ OutOfMemory) × (refusal_of (after_log start log) call ≡ None))
IsWhy start log beyond call reasons.LogTaken = IsSome beyond

-- the reason holds after the legal log that the seat has then seen, which goes on from what it had seen, and has no
-- other calls of its operator than those that the seat had made
pub record IsRefused (start : Desk) (old new : SeatOf) (call : CallOf) (version : ℕ) (why : Why) : Type 0 where
  pub op : new.op ≡ old.op
  pub at : length new.seen ≡ version
  pub legal : IsLegal start new.seen
  pub begins : IsPrefix old.seen new.seen
  pub own : numbers old.op new.seen ≡ numbers old.op old.seen
  pub count : new.count ≡ old.count
  pub reason : IsWhy start new.seen new.beyond call why

-- a call of a seat is accepted with this stamp, or refused
abbrev pub IsAnswered : Desk → Book → SeatOf → SeatOf → CallOf → StampOf → Answer → Type 0
IsAnswered start publisher old new call stamp (Accepted number notice) =
    IsAccepted start publisher old new call stamp number notice
IsAnswered start publisher old new call stamp (Refused version why) = IsRefused start old new call version why

-- the seat has seen a beginning of the log, in which its operator has the calls that the seat has seen and no others
abbrev pub IsOurs : SeatOf → List EntryOf → Type 0
IsOurs seat log = IsPrefix seat.seen log × (numbers seat.op log ≡ numbers seat.op seat.seen)

-- an entry stands behind the legal log that the seat has then seen, as where the call is refused since the log is taken
abbrev pub IsEnded : Desk → SeatOf → SeatOf → CallOf → Type 0
IsEnded start old new call = (version : ℕ) × IsRefused start old new call version reasons.LogTaken

-- the seat is as it was, and not of a desk with some legal log
abbrev pub IsForeign : Desk → (old new : SeatOf) → Type 0
IsForeign start old new = (new ≡ old) × ((log : List EntryOf) × IsLegal start log × ¬ IsOurs old log)

-- the seat has seen a legal log that goes on from what it had seen, and has no other calls of its operator than those
-- that the seat had made
pub record HasCaughtUp (start : Desk) (old new : SeatOf) : Type 0 where
  pub op : new.op ≡ old.op
  pub legal : IsLegal start new.seen
  pub begins : IsPrefix old.seen new.seen
  pub own : numbers old.op new.seen ≡ numbers old.op old.seen
  pub count : new.count ≡ old.count

-- why a call has no answer: its seat is not of this desk, or the desk has ended
abbrev pub IsUnanswered : Desk → SeatOf → SeatOf → CallOf → CallFault → Type 0
IsUnanswered start old new call SeatForeign = IsForeign start old new
IsUnanswered start old new call Ended = IsEnded start old new call
