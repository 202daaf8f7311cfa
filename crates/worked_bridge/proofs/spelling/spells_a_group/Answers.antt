use Rattle.std.proofs.Common.{[], ◌∷◌, ap}
use Rattle.desk_edit.specs.declared.command.Command.TheVariants.{AddRoom, RemoveRoom}
use Rattle.desk_edit.specs.Asked.{CallOf}
use Rattle.desk_edit.specs.Asked.CallOf.{Group}
use Rattle.desk_text.specs.declared.fault.Fault.TheVariants.{MissingWord, UnknownWord}
use Rattle.desk_text.specs.Calls.{call_of, headed, last_of, single, command_of, commands_of, spoken_call}
use Rattle.desk_text.specs.Values.{values_of}
use Rattle.desk_text.specs.Addresses.{address_of, field_of}
use Rattle.worked_bridge.proofs.Given.{asks, callless, faultless, told}
use Rattle.worked_bridge.proofs.spelling.spells_a_group.Goals as goal

abbrev two : CallOf
two = Group (AddRoom (record { room = 7; rate = 8000 }) ∷ RemoveRoom 7 ∷ [])

pub returns-clause-two : goal.returns-clause-two
unfolding call_of headed last_of single command_of commands_of values_of address_of field_of
returns-clause-two c = λ is. asks _ _ two (ap spoken_call is) c.parse_desk.ensures.call

pub returns-clause-good : goal.returns-clause-good
unfolding call_of headed last_of single command_of commands_of values_of address_of field_of
returns-clause-good c = λ is. faultless _ _ two (ap spoken_call is) c.parse_desk.ensures.call

pub returns-clause-empty : goal.returns-clause-empty
unfolding call_of headed last_of single command_of commands_of values_of address_of field_of
returns-clause-empty c = λ is. callless _ _ 2 MissingWord (ap spoken_call is) c.parse_desk.ensures.call

pub returns-clause-missing : goal.returns-clause-missing
unfolding call_of headed last_of single command_of commands_of values_of address_of field_of
returns-clause-missing c = λ is. told _ _ 2 MissingWord (ap spoken_call is) c.parse_desk.ensures.call

pub returns-clause-undo : goal.returns-clause-undo
unfolding call_of headed last_of single command_of commands_of values_of address_of field_of
returns-clause-undo c = λ is. told _ _ 5 UnknownWord (ap spoken_call is) c.parse_desk.ensures.call
