use Rattle.script_text.proofs.RunLemmas.{no_memory_exit}
use Rattle.script_text.proofs.running.run_script.Goals as goal

pub returns-in_default-clause-run : goal.returns-in_default-clause-run
returns-in_default-clause-run g c =
    no_memory_exit (g.S.ScriptSource.rest c.args.reader.now) (g.T.TextSink.held c.args.writer.now)

pub returns-in-Err-clause-run : goal.returns-in-Err-clause-run
returns-in-Err-clause-run g c =
    no_memory_exit (g.S.ScriptSource.rest c.args.reader.now) (g.T.TextSink.held c.args.writer.now)
