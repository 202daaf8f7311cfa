-- How the core answers calls of the desk (own).
use Rattle.std.specs.Prelude.{◌≡◌, ℕ, ◌+◌, not, ◌||◌, nat_lt, nat_eq, if◌then◌else◌, List, Option, None, Some}
use Rattle.desk_edit.specs.Asked.{CallOf as Call}
use Rattle.desk_edit.specs.Calls.{after_call}
use Rattle.desk_calls.specs.Desk.{call_refused, Does, IsReason}
use Rattle.ingress.specs.Names.{is_name}
use Rattle.bridge_core.specs.declared.fault.CoreFault.{CoreFault}
use Rattle.bridge_core.specs.declared.fault.CoreFault.TheVariants.{BadLanes, BadSettings}
use Rattle.desk_calls.specs.declared.reply.Reply.{Reply}
use Rattle.desk_calls.specs.declared.reply.Reply.TheVariants.{Accepted, Refused}
use Rattle.bridge_core.specs.Steps.{CoreOf, core_desk}

-- the most lanes that a core may have (own)
abbrev pub most_lanes : ℕ
most_lanes = 16

-- the first fault of what a core is to be made of
abbrev pub core_fault : ℕ → List ℕ → Option CoreFault
core_fault lanes cname =
    if nat_eq lanes 0 || nat_lt most_lanes lanes then Some BadLanes
    else (if not (is_name cname) then Some BadSettings else None)

-- an accepted call takes the next number; a refused one names the version and changes nothing
abbrev pub Answers : CoreOf → CoreOf → Call → Reply → Type 0
Answers old new call (Accepted number) =
    (number ≡ old.version + 1) × (new.version ≡ number) × (new.lanes ≡ old.lanes)
    × (call_refused (core_desk old) call ≡ None) × Does (core_desk old) (core_desk new) call
    × (new.history ≡ after_call old.history call)
Answers old new call (Refused at why) = (at ≡ old.version) × (new ≡ old) × IsReason (core_desk old) call why

-- the fact holds where the call was accepted
abbrev pub OnAccepted : Reply → Type 0 → Type 0
OnAccepted (Accepted number) P = P
OnAccepted (Refused at why) P = Unit {0}
