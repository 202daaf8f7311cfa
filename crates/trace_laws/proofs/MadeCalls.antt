-- The calls of a log, with their numbers and without.
use Rattle.std.proofs.Common.{◌≡◌, ℕ, ◌+◌, List, [], ◌∷◌, length, refl, sym, ap, ◌∙◌}
use Rattle.std.proofs.lemmas.List.{length-map}
use Rattle.desk_edit.specs.Asked.{CallOf}
use Rattle.operator_desk.specs.Entry.{EntryOf}
use Rattle.operator_desk.specs.LegalLogs.{calls_of}
use Rattle.operator_desk.specs.PastCalls.{made_from, made_of}
use Rattle.call_history.specs.AcceptedCall.{AcceptedOf}
use Rattle.trace_laws.specs.Traces.{asked_calls}

from_is : (first : ℕ) (log : List EntryOf) → asked_calls (made_from first log) ≡ calls_of log
from_is first [] = refl
from_is first (e ∷ es) = ap (λ (cs : List CallOf). e.call ∷ cs) (from_is (first + 1) es)

pub made_is : (log : List EntryOf) → calls_of log ≡ asked_calls (made_of log)
made_is log = sym (from_is 1 log)

pub made_many : (log : List EntryOf) → length (calls_of log) ≡ length (made_of log)
made_many log = ap length (made_is log) ∙ length-map (made_of log) (λ (m : AcceptedOf). m.call)
