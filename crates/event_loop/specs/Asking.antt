-- What became of a front's requests for pictures, turn by turn (own).
use Rattle.std.specs.Prelude.{true, false, List, [], ◌∷◌}
use Rattle.picture_requests.specs.Steps.{RequestStep, see, want, ask}
use Rattle.event_loop.specs.Kept.{source_of}
use Rattle.event_loop.specs.Turns.{Turn, owed, passed, took, lost, looked, gave_ticks, let_wait, let_some_wait}
use Rattle.event_loop.specs.Turns.{entered_desk, saw_desk, wanted_picture, chose_sources, asked_picture, made_report}
use Rattle.event_loop.specs.Turns.{judged_wake, signalled}

-- what a turn is for the requests: another version of the desk was seen, a source is to be asked, or it was asked
abbrev pub steps_in : Turn → List RequestStep
steps_in (saw_desk true version desk moment) = see desk moment ∷ []
steps_in (saw_desk false version desk moment) = []
steps_in (wanted_picture source moment) = want source moment ∷ []
steps_in (asked_picture o moment true) = ask (source_of o) moment ∷ []
steps_in (asked_picture o moment false) = []
steps_in (owed notice) = []
steps_in (passed came) = []
steps_in (took late arrival outcome ended) = []
steps_in (lost late arrival) = []
steps_in (looked moment) = []
steps_in (gave_ticks due moment) = []
steps_in (let_wait desk moment) = []
steps_in (let_some_wait desk moment) = []
steps_in (entered_desk desk) = []
steps_in (chose_sources moment sources) = []
steps_in (made_report due desk moment) = []
steps_in (judged_wake moment raised) = []
steps_in signalled = []
