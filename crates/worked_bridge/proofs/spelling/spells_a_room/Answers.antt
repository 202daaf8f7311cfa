use Rattle.std.proofs.Common.{ap}
use Rattle.desk_edit.specs.declared.command.Command.TheVariants.{AddRoom}
use Rattle.desk_edit.specs.Asked.CallOf.{Apply}
use Rattle.desk_text.specs.declared.fault.Fault.TheVariants.{BadNumber, ExtraWord}
use Rattle.desk_text.specs.Calls.{call_of, headed, last_of, single, command_of, commands_of, spoken_call}
use Rattle.desk_text.specs.Values.{values_of}
use Rattle.worked_bridge.proofs.Given.{given, refused, only_command, needs_none, add_room_is_other}
use Rattle.worked_bridge.proofs.spelling.spells_a_room.Goals as goal

pub returns-clause-music : goal.returns-clause-music
unfolding call_of headed last_of single command_of commands_of values_of
returns-clause-music c = λ is.
    given _ _ _ (Apply (AddRoom (record { room = 1; rate = 44100 })))
    (only_command (AddRoom (record { room = 1; rate = 44100 })))
    (needs_none c.parse_desk.result _ _ c.parse_desk.ensures.memory is add_room_is_other) (ap spoken_call is)
    c.parse_desk.ensures.call

pub returns-clause-usual : goal.returns-clause-usual
unfolding call_of headed last_of single command_of commands_of values_of
returns-clause-usual c = λ is.
    given _ _ _ (Apply (AddRoom (record { room = 1; rate = 8000 })))
    (only_command (AddRoom (record { room = 1; rate = 8000 })))
    (needs_none c.parse_desk.result _ _ c.parse_desk.ensures.memory is add_room_is_other) (ap spoken_call is)
    c.parse_desk.ensures.call

pub returns-clause-number : goal.returns-clause-number
unfolding call_of headed last_of single command_of commands_of values_of
returns-clause-number c = λ is.
    refused _ _ 3 BadNumber (needs_none c.parse_desk.result _ _ c.parse_desk.ensures.memory is add_room_is_other)
    (ap spoken_call is) c.parse_desk.ensures.call

pub returns-clause-behind : goal.returns-clause-behind
unfolding call_of headed last_of single command_of commands_of values_of
returns-clause-behind c = λ is.
    refused _ _ 4 ExtraWord (needs_none c.parse_desk.result _ _ c.parse_desk.ensures.memory is add_room_is_other)
    (ap spoken_call is) c.parse_desk.ensures.call
