use Rattle.std.proofs.Common.{ℕ, sym, ap, subst, Some, None}
use Rattle.playout.specs.Playout.{begun_by}
use Rattle.playout.specs.inner.Holds.{PlayoutOf, SourceOf, Holds}
use Rattle.playout.proofs.many.begun.Goals as goal

pub returns-clause-begun : goal.returns-clause-begun
returns-clause-begun g c =
    let block = c.args.block in
    subst (λ (p : PlayoutOf). Holds p (Some (begun_by block.rate block.ts block.samples.now)))
    (sym (ap (λ (s : SourceOf). s.playout) c.new-2.ensures))
    (subst (λ (rate : ℕ). Holds c.put.new.self (Some (begun_by rate block.ts block.samples.now)))
    c.in_ok-playout.ensures.rate
    (c.put.ensures.puts None c.in_ok-playout.ensures.blank).1)
