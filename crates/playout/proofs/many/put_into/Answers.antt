use Rattle.std.proofs.Common.{◌∙◌, ap, length}
use Rattle.playout.specs.inner.Holds.{PlayoutOf}
use Rattle.playout.proofs.Renewed.{at_another_rate}
use Rattle.playout.proofs.many.put_into.Goals as goal

pub returns-in_ok-source-clause-put : goal.returns-in_ok-source-clause-put
returns-in_ok-source-clause-put g c =
    let block = c.args.block in
    at_another_rate c.args.renews c.args.source.now _ block.rate block.ts block.samples.now
    (λ same. c.if-rate-block.false (c.rate.ensures ∙ ap (λ (p : PlayoutOf). length p.cells) c.playout.ensures ∙ same))
    c.in_ok-source.ensures.none c.in_ok-source.ensures.begun
