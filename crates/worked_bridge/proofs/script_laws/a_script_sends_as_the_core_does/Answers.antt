use Rattle.std.proofs.Common.{refl}
use Rattle.desk_text.specs.Calls.{call_of, command_of, single}
use Rattle.desk_text.specs.Values.{values_of}
use Rattle.script_text.specs.Requests.{line_request, words_request}
use Rattle.script_text.specs.FirstLine.{first_request, bridge_of}
use Rattle.script_text.specs.Scripts.{requests_from}
use Rattle.worked_bridge.proofs.script_laws.a_script_sends_as_the_core_does.Goals as goal

pub returns-clause-unnamed : goal.returns-clause-unnamed
unfolding requests_from line_request first_request words_request call_of single command_of values_of
returns-clause-unnamed c = refl

pub returns-clause-named : goal.returns-clause-named
unfolding requests_from line_request first_request bridge_of words_request
returns-clause-named c = refl
