use Rattle.script_text.specs.Output.{outcome_of}
use Rattle.script_text.specs.Requests.{line_request, words_request}
use Rattle.script_text.specs.FirstLine.{first_request}
use Rattle.worked_bridge.proofs.Wires.{no_wire}
use Rattle.worked_bridge.proofs.answering.an_empty_script.Goals as goal

pub returns : goal.returns
unfolding outcome_of line_request first_request words_request
returns c = (c.in_ok-out.ensures.ok.each no_wire (tt, tt)).1
