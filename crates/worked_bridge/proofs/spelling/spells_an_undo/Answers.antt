use Rattle.std.proofs.Common.{ap}
use Rattle.desk_edit.specs.Asked.CallOf.{Undo}
use Rattle.desk_text.specs.declared.fault.Fault.TheVariants.{BadNumber, ExtraWord}
use Rattle.desk_text.specs.Calls.{call_of, headed, last_of, single, command_of, commands_of, spoken_call}
use Rattle.desk_text.specs.Values.{values_of}
use Rattle.desk_text.specs.Addresses.{address_of, field_of}
use Rattle.worked_bridge.proofs.Given.{given, refused, only_undo, needs_none, undo_is_other}
use Rattle.worked_bridge.proofs.spelling.spells_an_undo.Goals as goal

pub returns-clause-undo : goal.returns-clause-undo
unfolding call_of headed last_of single command_of commands_of values_of address_of field_of
returns-clause-undo c = λ is.
    given _ _ _ (Undo 18) (only_undo 18)
    (needs_none c.parse_desk.result _ _ c.parse_desk.ensures.memory is undo_is_other) (ap spoken_call is)
    c.parse_desk.ensures.call

pub returns-clause-most : goal.returns-clause-most
unfolding call_of headed last_of single command_of commands_of values_of address_of field_of
returns-clause-most c = λ is.
    given _ _ _ (Undo 18446744073709551615) (only_undo 18446744073709551615)
    (needs_none c.parse_desk.result _ _ c.parse_desk.ensures.memory is undo_is_other) (ap spoken_call is)
    c.parse_desk.ensures.call

pub returns-clause-more : goal.returns-clause-more
unfolding call_of headed last_of single command_of commands_of values_of address_of field_of
returns-clause-more c = λ is.
    refused _ _ 2 BadNumber (needs_none c.parse_desk.result _ _ c.parse_desk.ensures.memory is undo_is_other)
    (ap spoken_call is) c.parse_desk.ensures.call

pub returns-clause-behind : goal.returns-clause-behind
unfolding call_of headed last_of single command_of commands_of values_of address_of field_of
returns-clause-behind c = λ is.
    refused _ _ 3 ExtraWord (needs_none c.parse_desk.result _ _ c.parse_desk.ensures.memory is undo_is_other)
    (ap spoken_call is) c.parse_desk.ensures.call
