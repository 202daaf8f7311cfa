use Rattle.script_text.specs.Output.{RunEnds}
use Rattle.script_text.proofs.HeardLaws.{input_on_wires}
use Rattle.script_text.proofs.running.run.Goals as goal

pub returns-clause-run : goal.returns-clause-run
returns-clause-run g c =
    let left = g.S.ScriptSource.rest c.run_script.new.reader in
    let before = g.T.TextSink.held c.args.writer.now in
    let now = g.T.TextSink.held c.run_script.new.writer in
    input_on_wires c.scripts_are_heard.ensures (g.S.ScriptSource.rest c.args.reader.now)
    (λ input decoding. RunEnds decoding input left before now c.run_script.result) c.run_script.ensures.run
