-- When a core's desk is the one that a history of calls leads to (own).
use Rattle.std.specs.Prelude.{◌≡◌, ◌+◌, None}
use Rattle.desk_edit.specs.Asked.{CallOf as Call}
use Rattle.desk_edit.specs.Calls.{CallHistory, refusal_of, after_call}
use Rattle.desk_calls.specs.Following.{HasCalled as DeskHasCalled, IsTold}
use Rattle.desk_calls.specs.declared.reply.Reply.{Reply}
use Rattle.desk_calls.specs.declared.reply.Reply.TheVariants.{Accepted, Refused}
use Rattle.bridge_core.specs.Steps.{CoreOf, core_desk}

-- the core's desk is where this history of calls leads
abbrev pub HasCalled : CoreOf → CallHistory → Type 0
HasCalled core h = DeskHasCalled (core_desk core) h

-- a call is answered by the history of those before it, and the core goes where the history with it leads
abbrev pub IsAnswered : CallHistory → CoreOf → Call → Reply → Type 0
IsAnswered h new call (Accepted number) =
    (refusal_of h call ≡ None) × (number ≡ h.accepted + 1) × HasCalled new (after_call h call)
IsAnswered h new call (Refused at why) = (at ≡ h.accepted) × IsTold h call why × HasCalled new h
