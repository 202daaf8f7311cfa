-- The script that a speaker of a trace writes: its deeds, each behind the calls that lead to its version (own).
use Rattle.std.specs.Prelude.{◌≡◌, ℕ, ◌-◌, List, [], ◌∷◌, ◌++◌, max, take, drop}
use mathlib.Core.List.{IsPrefix}
use Rattle.media_workers.specs.LaneRuns.{Versioned}
use Rattle.script_text.specs.ItemLines.{item_text}
use Rattle.script_text.specs.Requests.{wait_line, report_line}
use Rattle.call_history.specs.AcceptedCall.{AcceptedOf}
use Rattle.operator_desk.specs.Entry.{EntryOf}
use Rattle.operator_desk.specs.PastCalls.{made_of}
use Rattle.event_loop.specs.Traced.{DeedOf, took, waited, reported, asked}
use Rattle.trace_text.specs.TraceLines.{marked, calls_text, datagram_line, picture_line}
use Rattle.trace_text.specs.declared.speaker.Speaker.{Speaker}
use Rattle.trace_text.specs.declared.told.Told.{Told}

-- something that was done at a version of the desk, and its line
pub record DoneAt : Type 0 where
  pub version : ℕ
  pub line : List ℕ

-- an item that a lane handled
abbrev pub item_done : Versioned → DoneAt
item_done handled = record { version = handled.version; line = item_text handled.input }

-- a deed of the front
abbrev pub front_done : DeedOf → DoneAt
front_done (took version moment from octets) = record { version = version; line = datagram_line moment from octets }
front_done (waited version moment origin) =
    record { version = version; line = wait_line moment origin.address origin.ssrc ++ 10 ∷ [] }
front_done (reported version moment) = record { version = version; line = report_line moment ++ 10 ∷ [] }
front_done (asked version to ssrc) = record { version = version; line = picture_line to ssrc }

-- of these calls those behind so many that lead to this version
abbrev pub between : (told version : ℕ) → List AcceptedOf → List AcceptedOf
between told version calls = take (version - told) (drop told calls)

-- the lines of a deed, behind so many told calls of these: first those of the calls that lead to its version
abbrev pub deed_text : Speaker → (told : ℕ) → DoneAt → List AcceptedOf → List ℕ
deed_text speaker told done calls =
    calls_text speaker (between told done.version calls) ++ marked speaker done.line

-- the lines of deeds
abbrev pub script_lines : Speaker → (told : ℕ) → List DoneAt → List AcceptedOf → List ℕ
script_lines speaker told [] calls = []
script_lines speaker told (d ∷ ds) calls =
    deed_text speaker told d calls ++ script_lines speaker (max told d.version) ds calls

-- how many calls were told by then
abbrev pub told_after : (told : ℕ) → List DoneAt → ℕ
told_after told [] = told
told_after told (d ∷ ds) = told_after (max told d.version) ds

-- A text goes on by what is said of the calls of any log that goes on from this one.
abbrev pub GoesOnBy : List EntryOf → (List AcceptedOf → List ℕ) → (old new : List ℕ) → Type 0
GoesOnBy seen said old new = (log : List EntryOf) → IsPrefix seen log → new ≡ old ++ said (made_of log)

-- a speaker that has told so many calls: the deeds that have come from it, the calls that its follower has seen, and
-- the text
pub record ScriptNow : Type 0 where
  pub told : Told
  pub came : List DoneAt
  pub seen : List EntryOf
  pub text : List ℕ

abbrev pub script_now : Told → List DoneAt → List EntryOf → List ℕ → ScriptNow
script_now told came seen text = record { told = told; came = came; seen = seen; text = text }

-- More deeds have come, and the text goes on by the lines of these. Whatever log goes on from what the follower has
-- seen gives the same.
pub record ScriptGoesOn (old new : ScriptNow) : Type 0 where
  pub more : List DoneAt
  pub came : new.came ≡ old.came ++ more
  pub seen : IsPrefix old.seen new.seen
  pub told : new.told ≡ record old.told { calls = told_after old.told.calls more }
  pub text : GoesOnBy new.seen (script_lines old.told.speaker old.told.calls more) old.text new.text
