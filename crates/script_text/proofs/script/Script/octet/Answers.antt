use Rattle.std.proofs.Common.{[]}
use Rattle.script_text.proofs.Known.{Appends-none}
use Rattle.script_text.proofs.script.Script.octet.Goals as goal

pub returns-then-octet-eq10-clause-step : goal.returns-then-octet-eq10-clause-step
returns-then-octet-eq10-clause-step g c = rw c.if-octet-eq10.true c.end_line.ensures.step

pub returns-else-octet-eq10-clause-step : goal.returns-else-octet-eq10-clause-step
returns-else-octet-eq10-clause-step g c = λ bridge tail heard stands.
    ([], Appends-none _, c.extend_line.ensures.step bridge tail heard stands)
