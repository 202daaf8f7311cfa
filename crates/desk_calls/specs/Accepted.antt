-- Lists of calls that are accepted one after another (own).
use Rattle.std.specs.Prelude.{◌≡◌, ◌+◌, List, [], ◌∷◌, fold, None}
use Rattle.desk_edit.specs.Asked.{CallOf as Call}
use Rattle.desk_edit.specs.Calls.{CallHistory, refusal_of, after_call}
use Rattle.desk_calls.specs.Desk.{DeskOf, call_refused, Does}

-- after these calls, one after another
abbrev pub after_calls : CallHistory → List Call → CallHistory
after_calls h calls = fold after_call h calls

-- a legal list of calls: each one is accepted after those before it
abbrev pub AreAccepted : CallHistory → List Call → Type 0
AreAccepted h [] = Unit {0}
AreAccepted h (call ∷ calls) = (refusal_of h call ≡ None) × AreAccepted (after_call h call) calls

-- from the first desk to the last, each accepts one of the calls and does what it is to do
abbrev pub AcceptsInTurn : DeskOf → List Call → DeskOf → Type 0
AcceptsInTurn first [] last = last ≡ first
AcceptsInTurn first (call ∷ calls) last =
    (next : DeskOf) × (call_refused first call ≡ None) × Does first next call
    × (next.version ≡ first.version + 1) × (next.history ≡ after_call first.history call)
    × AcceptsInTurn next calls last
