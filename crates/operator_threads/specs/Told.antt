-- What an operator at a shared desk is answered (own).
use Rattle.std.specs.Prelude.{◌≡◌, ◌≤◌, ◌/◌, ℕ, nat_eq, List, ◌∷◌, [], length, codes, Option, Some, if◌then◌else◌}
use mathlib.Core.List.{IsPrefix}
use Rattle.logbook.specs.Pages.{Book}
use Rattle.desk_rows.specs.Desk.{Desk}
use Rattle.desk_edit.specs.Asked.{CallOf}
use Rattle.desk_edit.specs.declared.command.Command.{Command}
use Rattle.desk_groups.specs.Making.{MakeAgain}
use Rattle.call_history.specs.Stamp.{StampOf}
use Rattle.desk_calls.specs.declared.reply.Reply.TheVariants as replies
use Rattle.desk_text.specs.GroupsText.{groups_text}
use Rattle.desk_text.specs.HistoryText.{history_text}
use Rattle.operator_lines.specs.declared.line_desk.View.{View}
use Rattle.operator_lines.specs.declared.line_desk.View.TheVariants.{Rows, Groups, History, Stats, Levels, Why}
use Rattle.operator_lines.specs.declared.trouble.Wrong.{Wrong}
use Rattle.operator_lines.specs.declared.trouble.Wrong.TheVariants as wrongs
use Rattle.operator_lines.specs.Why.{TroubleOf, why_text}
use Rattle.desk_text.specs.RowLines.{show_text}
use Rattle.desk_text.specs.Text.{reply_text, refused_text, line_text, fixed}
use Rattle.published_desk.specs.Published.{NoticeOf}
use Rattle.operator_desk.specs.declared.answer.Answer.{Answer}
use Rattle.operator_desk.specs.declared.answer.Answer.TheVariants.{Accepted, Refused}
use Rattle.operator_desk.specs.declared.answer.Why.{Why as Reason}
use Rattle.operator_desk.specs.declared.answer.Why.TheVariants as reasons
use Rattle.operator_desk.specs.Answers.{IsAnswered, IsCopy, IsNotice, why_told}
use Rattle.operator_desk.specs.Opening.{most_operators}
use Rattle.operator_desk.specs.PastCalls.{PastOf, IsPast}
use Rattle.operator_desk.specs.Seats.{SeatOf}

-- the line of an answer: that of an accepted call's number, or of the version and the refusal
abbrev pub answer_text : Answer → List ℕ
answer_text (Accepted number notice) = reply_text (replies.Accepted number)
answer_text (Refused version why) = refused_text version (why_told why)

-- the notice of an accepted call is that of a legal log
abbrev pub IsTelling : Desk → Book → Answer → Type 0
IsTelling start publisher (Accepted number notice) = IsNotice start publisher notice
IsTelling start publisher (Refused version why) = Unit {0}

-- the notice of an accepted call is known
abbrev pub IsKnown : Answer → NoticeOf → Type 0
IsKnown (Accepted number notice) known = IsPrefix notice.lists known.lists
IsKnown (Refused version why) known = Unit {0}

-- the name of a connection as it is told: a `-` where it has none
abbrev pub shown_name : List ℕ → List ℕ
shown_name name = if nat_eq (length name) 0 then codes "-" else name

-- how a call is stamped that is given at a moment, in nanoseconds, on a connection of this name
abbrev pub stamp_at : (moment : ℕ) → (name : List ℕ) → StampOf
stamp_at moment name = record { moment = moment / 1000000; name = shown_name name }

-- the line of a connection's name
abbrev pub name_line : List ℕ → List ℕ
name_line name = line_text (fixed (codes "as") ∷ fixed name ∷ [])

-- what was wrong with the line of a refused call
abbrev pub wrong_by : Reason → Wrong
wrong_by (reasons.Told refusal) = wrongs.Refused refusal
wrong_by reasons.LogTaken = wrongs.Taken

-- the last line that was faulty or refused, after the call of a line was answered so
abbrev pub trouble_after : (line : List ℕ) → Answer → Option TroubleOf → Option TroubleOf
trouble_after line (Accepted number notice) before = before
trouble_after line (Refused version why) before = Some (record { line = line; wrong = wrong_by why })

-- the rows after a legal log of this many calls are told, and last this version
abbrev pub ShowsAt : Desk → ℕ → List ℕ → Type 0
ShowsAt start version text = (rows : Desk) × IsCopy start version rows × (text ≡ show_text rows version)

-- the rows of a version are told that is this one or a later one
abbrev pub SeatShows : Desk → ℕ → List ℕ → Type 0
SeatShows start least text = (version : ℕ) × (least ≤ version) × ShowsAt start version text

-- groups are told that make these rows again, and last the version
abbrev pub TellsMaking : (rows : Desk) → (version : ℕ) → List ℕ → Type 0
TellsMaking rows version text =
    (groups : List (List Command)) × MakeAgain rows groups × (text ≡ groups_text groups version)

-- those are told that make the rows of a version again, which is this one or a later one
abbrev pub TellsGroups : Desk → (least : ℕ) → List ℕ → Type 0
TellsGroups start least text =
    (version : ℕ) × (rows : Desk) × (least ≤ version) × IsCopy start version rows × TellsMaking rows version text

-- the last calls of a legal log that are in force are told, and the last that can be redone: at most so many of each;
-- and last how many calls the log has
abbrev pub TellsPast : Desk → (most : ℕ) → PastOf → List ℕ → Type 0
TellsPast start most past text =
    IsPast start most past × (text ≡ history_text past.done past.undone (length past.log))

-- those of a log are told that goes on from what the seat has seen, and has so many calls at least
abbrev pub SeatTellsPast : Desk → (least most : ℕ) → SeatOf → List ℕ → Type 0
SeatTellsPast start least most seat text =
    (past : PastOf) × IsPrefix seat.seen past.log × (least ≤ length past.log) × TellsPast start most past text

-- what was wrong with a line is told, by the rows of a version that is this one or a later one
abbrev pub TellsWhy : Desk → (least : ℕ) → Option TroubleOf → List ℕ → Type 0
TellsWhy start least trouble text =
    (version : ℕ) × (rows : Desk) × (least ≤ version) × IsCopy start version rows
    × (text ≡ why_text rows version trouble)

-- what a seat is told of a desk, by what it asks for, after so many calls at least; or of what the bridge counts, with
-- so many seats in use; or of how loud the sources of sound are; or of the last line that was faulty or refused
abbrev pub SeatViews :
    Desk → (counts : ℕ → List ℕ → Type 0) → (levels : List ℕ → Type 0) → (least : ℕ) → SeatOf → Option TroubleOf → View
    → List ℕ → Type 0
SeatViews start counts levels least seat trouble Rows text = SeatShows start least text
SeatViews start counts levels least seat trouble Groups text = TellsGroups start least text
SeatViews start counts levels least seat trouble (History most) text = SeatTellsPast start least most seat text
SeatViews start counts levels least seat trouble Stats text =
    (used : ℕ) × (used ≤ most_operators) × counts used text
SeatViews start counts levels least seat trouble Levels text = levels text
SeatViews start counts levels least seat trouble Why text = TellsWhy start least trouble text
