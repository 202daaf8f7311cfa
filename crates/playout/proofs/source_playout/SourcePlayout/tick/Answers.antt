use Rattle.std.proofs.Common.{◌/◌, ℕ, refl, subst}
use Rattle.playout.specs.inner.Holds.{SourceOf, HasTaken}
use Rattle.playout.specs.inner.Counts.{HasTicked}
use Rattle.playout.proofs.Renewed.{ticked}
use Rattle.playout.proofs.source_playout.SourcePlayout.tick.Goals as goal

pub returns : goal.returns
returns g c =
    let inside : SourceOf = record { playout = c.self.inside.playout; tally = c.self.inside.tally } in
    let new : SourceOf = record { playout = c.skip.new.self; tally = c.self.inside.tally } in
    subst (λ (old : SourceOf). HasTicked old new) c.self.view_is
    (ticked inside new refl
    (subst (λ (rate : ℕ). HasTaken inside.playout new.playout (rate / 50)) c.rate.ensures c.skip.ensures.taken))
