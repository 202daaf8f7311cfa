-- What a front counted over any number of turns (own).
use Rattle.std.specs.Prelude.{◌≡◌, List, [], ◌∷◌, ◌++◌}
use Rattle.std.specs.List.{AllZip, flat_map}
use Rattle.ingress.specs.declared.outcome.Outcome.{Outcome}
use Rattle.bridge_stats.specs.declared.taken.TakenIn.{TakenIn}
use Rattle.bridge_stats.specs.Stats.{StatsOf}
use Rattle.bridge_stats.specs.Runs.{AreAllNoted}
use Rattle.media_front.specs.Fronts.{Arrival}
use Rattle.event_loop.specs.Counted.{IsNoteOf}
use Rattle.event_loop.specs.Turns.{Turn, owed, passed, took, lost, looked, gave_ticks, let_wait, let_some_wait}
use Rattle.event_loop.specs.Turns.{entered_desk, saw_desk, wanted_picture, chose_sources, asked_picture, made_report}
use Rattle.event_loop.specs.Turns.{judged_wake, signalled}

-- the datagram that a turn took in, with its outcome, or none
abbrev pub taken_in : Turn → List (Arrival × Outcome)
taken_in (took late arrival outcome ended) = (arrival, outcome) ∷ []
taken_in (lost late arrival) = []
taken_in (passed came) = []
taken_in (owed notice) = []
taken_in (looked moment) = []
taken_in (gave_ticks due moment) = []
taken_in (let_wait desk moment) = []
taken_in (let_some_wait desk moment) = []
taken_in (entered_desk desk) = []
taken_in (saw_desk later version desk moment) = []
taken_in (wanted_picture source moment) = []
taken_in (chose_sources moment sources) = []
taken_in (asked_picture o moment sent) = []
taken_in (made_report due desk moment) = []
taken_in (judged_wake moment raised) = []
taken_in signalled = []

-- The notes of datagrams with their outcomes: one for each of them, in their order.
abbrev pub AreNotesOf : List (Arrival × Outcome) → List TakenIn → Type 0
AreNotesOf all notes = AllZip (λ judged taken. IsNoteOf judged.0 judged.1 taken) all notes

-- What these turns took in was counted, datagram by datagram and in order, and nothing else.
pub record AreCounted (turns : List Turn) (old new : StatsOf) : Type 0 where
  pub notes : List TakenIn
  pub each : AreNotesOf (flat_map taken_in turns) notes
  pub noted : AreAllNoted notes old new
  pub taken : new.taken ≡ old.taken ++ notes
