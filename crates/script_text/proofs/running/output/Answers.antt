use Rattle.desk_text.specs.Lines.{lines_of}
use Rattle.script_text.proofs.HeardLaws.{on_wires}
use Rattle.script_text.proofs.running.output.Goals as goal

pub returns-clause-ok : goal.returns-clause-ok
returns-clause-ok g c = on_wires c.scripts_are_heard.ensures (lines_of c.args.script.now) _ c.script_output.ensures.ok

pub returns-clause-fault : goal.returns-clause-fault
returns-clause-fault g c = λ line word fault e.
    on_wires c.scripts_are_heard.ensures (lines_of c.args.script.now) _
    (λ decoding heard. c.script_output.ensures.fault decoding line word fault heard e)
