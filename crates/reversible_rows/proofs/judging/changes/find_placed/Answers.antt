use Rattle.desk_rows.specs.laws.Words.{sym}
use Rattle.reversible_rows.proofs.ChangeLemmas.{no_placed}
use Rattle.reversible_rows.proofs.judging.changes.find_placed.Goals as goal

pub returns-in_default : goal.returns-in_default
returns-in_default c = sym (no_placed c.args.key c.in_default.not-Member c.args.placed.now)
