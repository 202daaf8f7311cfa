use Rattle.std.proofs.Common.{arith}
use Rattle.script_text.specs.inner.Cursor.{asker_in}
use Rattle.script_text.proofs.BridgeLemmas.{opens}
use Rattle.script_text.proofs.beginning.begun.Goals as goal

pub returns-in-Ok-clause-stands : goal.returns-in-Ok-clause-stands
returns-in-Ok-clause-stands g c = λ decoding.
    opens c.in-Ok.core decoding (asker_in c.args.settings) c.in-Ok.ensures.fresh c.in-Ok.ensures.history
    c.in-Ok.ensures.lanes c.in-Ok.ensures.sources c.in-Ok.ensures.asker
