-- What an operator at a desk is answered, and what a watch tells (own).
use Rattle.std.specs.Prelude.{◌≡◌, ℕ, ◌≤◌, max, Bool, List, [], ◌∷◌, ◌++◌, length, take, drop, Option, Some, None}
use Rattle.std.specs.Bool.{MatchBool}
use Rattle.std.specs.List.{FoldsTo, flat_map}
use Rattle.logbook.specs.Pages.{Book}
use Rattle.call_history.specs.Lists.{last_few}
use Rattle.call_history.specs.Stamp.{StampedOf}
use Rattle.desk_rows.specs.Desk.{Desk}
use Rattle.desk_edit.specs.Asked.{CallOf}
use Rattle.desk_text.specs.HistoryText.{end_line}
use Rattle.desk_text.specs.StampedText.{told_line, told_text, calls_text}
use Rattle.operator_lines.specs.DeskAsk.{DeskAsk, calls, watches, news, lists, renames, leases, faults}
use Rattle.operator_lines.specs.Why.{TroubleOf}
use Rattle.operator_lines.specs.declared.line_desk.LeaseAsk.{LeaseAsk}
use Rattle.operator_lines.specs.declared.trouble.Wrong.TheVariants.{Faulty, Closed}
use Rattle.published_desk.specs.Published.{NoticeOf}
use Rattle.operator_desk.specs.declared.answer.Answer.{Answer}
use Rattle.operator_desk.specs.Answers.{IsAnswered, HasCaughtUp}
use Rattle.operator_desk.specs.PastCalls.{stamped_of}
use Rattle.operator_desk.specs.Seats.{SeatOf}
use Rattle.operator_threads.specs.Lease.{LeasesOf, HasLearnt, IsJudged, last_lease, leases_after, lease_line}
use Rattle.operator_threads.specs.Lease.{closed_line}
use Rattle.operator_threads.specs.Told.{answer_text, IsKnown, stamp_at, shown_name, name_line, trouble_after}

-- an operator at the desk: the seat; the latest notice that is known; of a watch how many calls of the log it has told,
-- or were accepted before it, and whether it tells moments and names; the connection's name; the last line that was
-- faulty or refused; and the leases that it has learnt of
pub record SittingOf : Type 0 where
  pub seat : SeatOf
  pub known : NoticeOf
  pub told : Option ℕ
  pub is_named : Bool
  pub name : List ℕ
  pub trouble : Option TroubleOf
  pub learnt : LeasesOf

-- The call of a line is answered, and its line is told. An accepted one has the moment and the name, and its notice is
-- known from then on; a refused one is the last line that was faulty or refused. The watch, the name and the leases
-- stay.
pub record AnswersCall (start : Desk) (publisher : Book) (moment : ℕ) (old new : SittingOf) (line : List ℕ)
    (call : CallOf) (said : List ℕ) : Type 0 where
  pub answer : Answer
  pub answered : IsAnswered start publisher old.seat new.seat call (stamp_at moment old.name) answer
  pub text : said ≡ answer_text answer
  pub known : IsKnown answer new.known
  pub told : new.told ≡ old.told
  pub named : new.is_named ≡ old.is_named
  pub name : new.name ≡ old.name
  pub trouble : new.trouble ≡ trouble_after line answer old.trouble
  pub learnt : new.learnt ≡ old.learnt

-- The call of a line is refused at a version no earlier than the last call known, and its line is told: the desk
-- doesn't take it. It is the last line that was faulty or refused, and nothing else has changed.
pub record IsClosed (old new : SittingOf) (line said : List ℕ) : Type 0 where
  pub version : ℕ
  pub least : length old.known.lists ≤ version
  pub text : said ≡ closed_line version
  pub noted : new ≡ record old { trouble = Some (record { line = line; wrong = Closed }) }

-- it has learnt of these leases
abbrev pub after_learning : LeasesOf → SittingOf → SittingOf
after_learning learnt old = record old { learnt = learnt }

-- the last lease that it has learnt of by then says whether the desk takes the call: then that is answered, and else
-- refused
abbrev pub SeatCalls :
    Desk → Book → (moment : ℕ) → (old new : SittingOf) → (line : List ℕ) → CallOf → (said : List ℕ) → Type 0
SeatCalls start publisher moment old new line call said =
    HasLearnt old.learnt new.learnt
    × (takes : Bool) × IsJudged new.learnt.list moment (shown_name old.name) takes
    × MatchBool takes (AnswersCall start publisher moment (after_learning new.learnt old) new line call said)
    (IsClosed (after_learning new.learnt old) new line said)

-- It has learnt of leases, the desk is told what is asked behind them, as of this moment or a later one, and what is
-- left of the last lease is told.
pub record TellsLease (moment : ℕ) (ask : LeaseAsk) (old new : SittingOf) (said : List ℕ) : Type 0 where
  pub at : ℕ
  pub least : moment ≤ at
  pub before : LeasesOf
  pub learnt : HasLearnt old.learnt before
  pub after : new ≡ after_learning (leases_after ask at (shown_name old.name) before) old
  pub text : said ≡ lease_line (last_lease new.learnt.list) at

-- A watch begins behind all calls of a legal log, the known ones among them, and their number is told.
pub record BeginsWatch (start : Desk) (is_named : Bool) (old new : SittingOf) (said : List ℕ) : Type 0 where
  pub caught : HasCaughtUp start old.seat new.seat
  pub known : new.known ≡ old.known
  pub all : length new.known.lists ≤ length new.seat.seen
  pub told : new.told ≡ Some (length new.seat.seen)
  pub named : new.is_named ≡ is_named
  pub name : new.name ≡ old.name
  pub trouble : new.trouble ≡ old.trouble
  pub learnt : new.learnt ≡ old.learnt
  pub text : said ≡ end_line (length new.seat.seen)

-- a watch begins so; where there is one, it goes on in this form, and how many calls it has told or passed over is told
abbrev pub SeatWatches : Desk → (is_named : Bool) → (old new : SittingOf) → Option ℕ → List ℕ → Type 0
SeatWatches start is_named old new None text = BeginsWatch start is_named old new text
SeatWatches start is_named old new (Some told) text =
    (new ≡ record old { is_named = is_named }) × (text ≡ end_line told)

-- The calls of a legal log behind so many first ones are told, the known ones among them.
pub record TellsNews (start : Desk) (passed : ℕ) (old new : SittingOf) (said : List ℕ) : Type 0 where
  pub caught : HasCaughtUp start old.seat new.seat
  pub known : new.known ≡ old.known
  pub all : length new.known.lists ≤ max passed (length new.seat.seen)
  pub told : new.told ≡ Some (max passed (length new.seat.seen))
  pub named : new.is_named ≡ old.is_named
  pub name : new.name ≡ old.name
  pub trouble : new.trouble ≡ old.trouble
  pub learnt : new.learnt ≡ old.learnt
  pub text : said ≡ told_text old.is_named (drop passed (stamped_of new.seat.seen))

-- a watch tells those that it hasn't told; without one there are no news
abbrev pub SeatNews : Desk → (old new : SittingOf) → Option ℕ → List ℕ → Type 0
SeatNews start old new None text = (new ≡ old) × (text ≡ [])
SeatNews start old new (Some told) text = TellsNews start told old new text

-- The last calls of a legal log are told, so many at most, the known ones among the log's, and how many it has.
pub record ListsCalls (start : Desk) (most : ℕ) (old new : SittingOf) (said : List ℕ) : Type 0 where
  pub caught : HasCaughtUp start old.seat new.seat
  pub known : new.known ≡ old.known
  pub all : length new.known.lists ≤ length new.seat.seen
  pub told : new.told ≡ old.told
  pub named : new.is_named ≡ old.is_named
  pub name : new.name ≡ old.name
  pub trouble : new.trouble ≡ old.trouble
  pub learnt : new.learnt ≡ old.learnt
  pub text : said ≡ calls_text (last_few most (stamped_of new.seat.seen)) (length new.seat.seen)

-- what an operator's desk is asked at a moment is answered
abbrev pub SeatAnswers : Desk → Book → (moment : ℕ) → (old new : SittingOf) → DeskAsk → List ℕ → Type 0
SeatAnswers start publisher moment old new (calls line call) text =
    SeatCalls start publisher moment old new line call text
SeatAnswers start publisher moment old new (watches is_named) text = SeatWatches start is_named old new old.told text
SeatAnswers start publisher moment old new news text = SeatNews start old new old.told text
SeatAnswers start publisher moment old new (lists most) text = ListsCalls start most old new text
SeatAnswers start publisher moment old new (renames name) text =
    (new ≡ record old { name = name }) × (text ≡ name_line name)
SeatAnswers start publisher moment old new (leases ask) text = TellsLease moment ask old new text
SeatAnswers start publisher moment old new (faults line word fault) text =
    (new ≡ record old { trouble = Some (record { line = line; wrong = Faulty word fault }) }) × (text ≡ [])

-- one thing that was asked at some moment, and the text that answered it
abbrev pub IsSeatAnswer : Desk → Book → SittingOf → DeskAsk × List ℕ → SittingOf → Type 0
IsSeatAnswer start publisher old asked new =
    (moment : ℕ) × SeatAnswers start publisher moment old new asked.0 asked.1

-- these were asked, one after another, and nothing else
abbrev pub AreSeatAnswers : Desk → Book → List (DeskAsk × List ℕ) → (old new : SittingOf) → Type 0
AreSeatAnswers start publisher asked old new = FoldsTo (IsSeatAnswer start publisher) old asked new

-- the text of an answer that is news
abbrev pub news_of : DeskAsk → List ℕ → List ℕ
news_of (calls line call) text = []
news_of (watches is_named) text = []
news_of news text = text
news_of (lists most) text = []
news_of (renames name) text = []
news_of (leases ask) text = []
news_of (faults line word fault) text = []

-- all news among these
abbrev pub news_among : List (DeskAsk × List ℕ) → List ℕ
news_among asked = flat_map (λ (a : DeskAsk × List ℕ). news_of a.0 a.1) asked

-- each of these calls is told once, in order, by its line with its moment and its name or without them
abbrev pub TellsEach : List StampedOf → List ℕ → Type 0
TellsEach [] said = said ≡ []
TellsEach (s ∷ ss) said =
    (is_named : Bool) × (rest : List ℕ) × (said ≡ told_line is_named s ++ rest) × TellsEach ss rest

-- The calls behind so many first ones were told, up to the last one that is told, each once and in order.
pub record WasTold (passed : ℕ) (new : SittingOf) (said : List ℕ) : Type 0 where
  pub last : ℕ
  pub told : new.told ≡ Some last
  pub few : last ≤ length new.seat.seen
  pub text : TellsEach (drop passed (take last (stamped_of new.seat.seen))) said

-- a call is given to the desk, and the text of its answer is appended
abbrev pub AppendsCall :
    Desk → Book → (moment : ℕ) → (old new : SittingOf) → (line : List ℕ) → CallOf → (before after : List ℕ) → Type 0
AppendsCall start publisher moment old new line call before after =
    (text : List ℕ) × (after ≡ before ++ text) × AnswersCall start publisher moment old new line call text

-- a call is refused, and the text is appended
abbrev pub AppendsClosed : (old new : SittingOf) → (line before after : List ℕ) → Type 0
AppendsClosed old new line before after =
    (text : List ℕ) × (after ≡ before ++ text) × IsClosed old new line text

-- a call is judged, and answered or refused, and the text is appended
abbrev pub AppendsJudged :
    Desk → Book → (moment : ℕ) → (old new : SittingOf) → (line : List ℕ) → CallOf → (before after : List ℕ) → Type 0
AppendsJudged start publisher moment old new line call before after =
    (text : List ℕ) × (after ≡ before ++ text) × SeatCalls start publisher moment old new line call text

-- the desk is told a lease or asked for it, and the text is appended
abbrev pub AppendsLease : (moment : ℕ) → LeaseAsk → (old new : SittingOf) → (before after : List ℕ) → Type 0
AppendsLease moment ask old new before after =
    (text : List ℕ) × (after ≡ before ++ text) × TellsLease moment ask old new text

-- a watch begins, and its text is appended
abbrev pub AppendsWatch : Desk → (is_named : Bool) → (old new : SittingOf) → (before after : List ℕ) → Type 0
AppendsWatch start is_named old new before after =
    (text : List ℕ) × (after ≡ before ++ text) × BeginsWatch start is_named old new text

-- these news are told, and their text is appended
abbrev pub AppendsNews : Desk → (told : ℕ) → (old new : SittingOf) → (before after : List ℕ) → Type 0
AppendsNews start told old new before after =
    (text : List ℕ) × (after ≡ before ++ text) × TellsNews start told old new text

-- the last calls are told, and their text is appended
abbrev pub AppendsCalls : Desk → (most : ℕ) → (old new : SittingOf) → (before after : List ℕ) → Type 0
AppendsCalls start most old new before after =
    (text : List ℕ) × (after ≡ before ++ text) × ListsCalls start most old new text
