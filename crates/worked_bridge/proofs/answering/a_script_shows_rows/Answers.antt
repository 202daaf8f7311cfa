use Rattle.std.specs.Fmt.{digits}
use Rattle.desk_edit.specs.Commands.{desk_after}
use Rattle.desk_edit.specs.Calls.{after_call}
use Rattle.desk_edit.specs.Refusals.{refused}
use Rattle.desk_text.specs.Calls.{call_of, command_of, single}
use Rattle.desk_text.specs.Values.{values_of}
use Rattle.desk_text.specs.Addresses.{address_of, field_of}
use Rattle.script_text.specs.Output.{outcome_of}
use Rattle.script_text.specs.Requests.{line_request, words_request}
use Rattle.script_text.specs.FirstLine.{first_request}
use Rattle.worked_bridge.proofs.Wires.{no_wire}
use Rattle.worked_bridge.proofs.answering.a_script_shows_rows.Goals as goal

pub returns : goal.returns
unfolding digits desk_after after_call refused outcome_of line_request first_request words_request call_of single
    command_of values_of address_of field_of
returns c = (c.in_ok-out.ensures.ok.each no_wire (tt, (tt, (tt, (tt, (tt, (tt, (tt, (tt, tt))))))))).1
