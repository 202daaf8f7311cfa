use Rattle.std.proofs.Common.{rules}
use Rattle.desk_text.specs.Calls.{call_of, command_of, single}
use Rattle.desk_text.specs.Values.{values_of}
use Rattle.script_text.specs.Output.{outcome_of}
use Rattle.script_text.specs.Requests.{line_request, words_request}
use Rattle.script_text.specs.FirstLine.{first_request}
use Rattle.worked_bridge.proofs.Wires.{on_no_wire}
use Rattle.worked_bridge.proofs.answering.a_room_of_no_number.Goals as goal

pub returns : goal.returns
unfolding outcome_of line_request first_request words_request call_of single command_of values_of
returns c = λ line word fault is.
    let told = on_no_wire (c.output.ensures.fault line word fault) (tt, tt) in
    search (rules, told)
