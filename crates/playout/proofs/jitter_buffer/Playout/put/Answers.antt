use Rattle.std.proofs.Common.{◌≡◌, ◌∙◌, ℕ, sym, subst, refl, Some, length}
use Rattle.playout.specs.declared.placed.PlacedSamples.TheVariants.{Kept, Late, Reset}
use Rattle.playout.specs.Playout.{begun_by}
use Rattle.playout.specs.inner.Holds.{PlayoutOf, Holds, Puts}
use Rattle.playout.proofs.Begun.{puts_by, other_step, reset_step}
use Rattle.playout.proofs.jitter_buffer.Playout.put.Goals as goal

pub returns-in-Kept-clause-puts : goal.returns-in-Kept-clause-puts
returns-in-Kept-clause-puts g c =
    let ts = c.args.ts in
    let samples = c.args.samples.now in
    let inside : PlayoutOf =
    record { begun = c.self.inside.begun; position = c.self.inside.position; cells = c.self.inside.ring } in
    let new : PlayoutOf =
    record { begun = c.self.inside.begun; position = c.self.inside.position; cells = c.put_begun.new.ring } in
    subst (λ (old : PlayoutOf). Puts old new ts samples (Kept c.in-Kept.count)) c.self.view_is
    (puts_by inside new ts samples (Kept c.in-Kept.count) c.if-not-self.false (λ play h.
    other_step inside new ts samples (Kept c.in-Kept.count) play (λ is. cc) c.if-not-self.false refl
    c.put_begun.ensures.long
    (sym c.in-Kept.is ∙ c.put_begun.ensures.placed play.position play.pairs h.4 h.2 h.3)
    (c.put_begun.ensures.agrees play.position play.pairs h.4 h.2 h.3)
    h))

pub returns-in-Late-clause-puts : goal.returns-in-Late-clause-puts
returns-in-Late-clause-puts g c =
    let ts = c.args.ts in
    let samples = c.args.samples.now in
    let inside : PlayoutOf =
    record { begun = c.self.inside.begun; position = c.self.inside.position; cells = c.self.inside.ring } in
    let new : PlayoutOf =
    record { begun = c.self.inside.begun; position = c.self.inside.position; cells = c.put_begun.new.ring } in
    subst (λ (old : PlayoutOf). Puts old new ts samples Late) c.self.view_is
    (puts_by inside new ts samples Late c.if-not-self.false (λ play h.
    other_step inside new ts samples Late play (λ is. cc) c.if-not-self.false refl c.put_begun.ensures.long
    (sym c.in-Late.is ∙ c.put_begun.ensures.placed play.position play.pairs h.4 h.2 h.3)
    (c.put_begun.ensures.agrees play.position play.pairs h.4 h.2 h.3)
    h))

pub returns-in-Reset-clause-puts : goal.returns-in-Reset-clause-puts
returns-in-Reset-clause-puts g c =
    let ts = c.args.ts in
    let samples = c.args.samples.now in
    let inside : PlayoutOf =
    record { begun = c.self.inside.begun; position = c.self.inside.position; cells = c.self.inside.ring } in
    let new : PlayoutOf = c.restart.new.self in
    let long : length c.put_begun.new.ring ≡ length c.self.inside.ring = c.put_begun.ensures.long in
    subst (λ (old : PlayoutOf). Puts old new ts samples Reset) c.self.view_is
    (puts_by inside new ts samples Reset c.if-not-self.false (λ play h.
    reset_step inside new ts samples play
    (sym c.in-Reset.is ∙ c.put_begun.ensures.placed play.position play.pairs h.4 h.2 h.3)
    (subst (λ (n : ℕ). Holds new (Some (begun_by n ts samples))) long c.restart.ensures.begun)))
