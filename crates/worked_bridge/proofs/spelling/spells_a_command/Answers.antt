use Rattle.std.proofs.Common.{[], ◌∷◌, ap}
use Rattle.desk_rows.specs.declared.row.Codec.TheVariants.{L16}
use Rattle.desk_edit.specs.declared.command.Command.{Command}
use Rattle.desk_edit.specs.declared.command.Command.TheVariants as commands
use Rattle.desk_edit.specs.Asked.CallOf.{Apply}
use Rattle.desk_text.specs.declared.fault.Fault.TheVariants.{BadAddress, BadNumber, MissingWord}
use Rattle.desk_text.specs.Calls.{call_of, headed, last_of, single, command_of, commands_of, spoken_call}
use Rattle.desk_text.specs.Values.{values_of}
use Rattle.desk_text.specs.Addresses.{address_of, field_of}
use Rattle.worked_bridge.proofs.Given.{given, refused, only_command, needs_none, add_member_is_other, add_room_is_other}
use Rattle.worked_bridge.proofs.Given.{none_is_other}
use Rattle.worked_bridge.proofs.spelling.spells_a_command.Goals as goal

abbrev member : Command
member =
    commands.AddMember (record {
      member = 1;
      room = 2;
      address = record { ip = 3 ∷ 4 ∷ 5 ∷ 6 ∷ []; port = 7 };
      codec = L16;
      out_audio = 8;
      first_seq = 9;
      first_ts = 10;
    })

pub returns-clause-member : goal.returns-clause-member
unfolding call_of headed last_of single command_of commands_of values_of address_of field_of
returns-clause-member c = λ is.
    given _ _ _ (Apply member) (only_command member)
    (needs_none c.parse_desk.result _ _ c.parse_desk.ensures.memory is add_member_is_other) (ap spoken_call is)
    c.parse_desk.ensures.call

pub returns-clause-address : goal.returns-clause-address
unfolding call_of headed last_of single command_of commands_of values_of address_of field_of
returns-clause-address c = λ is.
    refused _ _ 4 BadAddress (needs_none c.parse_desk.result _ _ c.parse_desk.ensures.memory is add_member_is_other)
    (ap spoken_call is) c.parse_desk.ensures.call

pub returns-clause-number : goal.returns-clause-number
unfolding call_of headed last_of single command_of commands_of values_of address_of field_of
returns-clause-number c = λ is.
    refused _ _ 2 BadNumber (needs_none c.parse_desk.result _ _ c.parse_desk.ensures.memory is add_room_is_other)
    (ap spoken_call is) c.parse_desk.ensures.call

pub returns-clause-nothing : goal.returns-clause-nothing
unfolding call_of headed last_of single command_of commands_of values_of address_of field_of
returns-clause-nothing c = λ is.
    refused _ _ 1 MissingWord (needs_none c.parse_desk.result _ _ c.parse_desk.ensures.memory is (none_is_other _))
    (ap spoken_call is) c.parse_desk.ensures.call
