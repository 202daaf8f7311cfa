use Rattle.std.proofs.Common.{ap}
use Rattle.desk_edit.specs.Asked.CallOf.{Revert}
use Rattle.desk_text.specs.declared.fault.Fault.TheVariants.{MissingWord, ExtraWord}
use Rattle.desk_text.specs.Calls.{call_of, headed, last_of, single, command_of, commands_of, spoken_call}
use Rattle.desk_text.specs.Values.{values_of}
use Rattle.desk_text.specs.Addresses.{address_of, field_of}
use Rattle.worked_bridge.proofs.Given.{given, refused, only_revert, needs_none, revert_is_other}
use Rattle.worked_bridge.proofs.spelling.spells_a_revert.Goals as goal

pub returns-clause-revert : goal.returns-clause-revert
unfolding call_of headed last_of single command_of commands_of values_of address_of field_of
returns-clause-revert c = λ is.
    given _ _ _ (Revert 7) (only_revert 7)
    (needs_none c.parse_desk.result _ _ c.parse_desk.ensures.memory is revert_is_other) (ap spoken_call is)
    c.parse_desk.ensures.call

pub returns-clause-most : goal.returns-clause-most
unfolding call_of headed last_of single command_of commands_of values_of address_of field_of
returns-clause-most c = λ is.
    given _ _ _ (Revert 18446744073709551615) (only_revert 18446744073709551615)
    (needs_none c.parse_desk.result _ _ c.parse_desk.ensures.memory is revert_is_other) (ap spoken_call is)
    c.parse_desk.ensures.call

pub returns-clause-missing : goal.returns-clause-missing
unfolding call_of headed last_of single command_of commands_of values_of address_of field_of
returns-clause-missing c = λ is.
    refused _ _ 2 MissingWord (needs_none c.parse_desk.result _ _ c.parse_desk.ensures.memory is revert_is_other)
    (ap spoken_call is) c.parse_desk.ensures.call

pub returns-clause-behind : goal.returns-clause-behind
unfolding call_of headed last_of single command_of commands_of values_of address_of field_of
returns-clause-behind c = λ is.
    refused _ _ 3 ExtraWord (needs_none c.parse_desk.result _ _ c.parse_desk.ensures.memory is revert_is_other)
    (ap spoken_call is) c.parse_desk.ensures.call
