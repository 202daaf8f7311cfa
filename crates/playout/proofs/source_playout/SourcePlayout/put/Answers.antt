use Rattle.std.proofs.Common.{◌≡◌, ◌≢◌, ◌∙◌, sym, subst, ℕ, Bool, true, length, inl, inr}
use Rattle.playout.specs.declared.placed.PlacedSamples.TheVariants.{Kept, Late, Reset}
use Rattle.playout.specs.inner.Holds.{SourceOf}
use Rattle.playout.specs.inner.Counts.{PutsInto}
use Rattle.playout.proofs.Renewed.{counted_put}
use Rattle.playout.proofs.source_playout.SourcePlayout.put.Goals as goal

pub returns-in-Kept : goal.returns-in-Kept
returns-in-Kept g c =
    let ts = c.args.ts in
    let samples = c.args.samples.now in
    let inside : SourceOf = record { playout = c.self.inside.playout; tally = c.self.inside.tally } in
    let middle = c.put-placed.new.self in
    let other : c.put-placed.result ≢ Reset = λ is.
    elim c.in-Kept.is [
      | inl kept ↦ (let e : Kept kept.0 ≡ Reset = sym kept.1 ∙ is in cc)
      | inr late ↦ (let e : Late ≡ Reset = sym late ∙ is in cc)
    ] in
    subst
    (λ (renews : Bool).
    PutsInto renews c.args.self.now c.count.new.self (length c.args.self.now.playout.cells) ts samples)
    (sym c.if-not-renews.false)
    (subst (λ (old : SourceOf). PutsInto true old c.count.new.self (length old.playout.cells) ts samples) c.self.view_is
    (subst (λ (rate : ℕ). PutsInto true inside c.count.new.self rate ts samples) c.put-placed.ensures.rate
    (counted_put inside c.count.new.self middle (length middle.cells) ts samples c.put-placed.result
    (sym c.put-placed.ensures.rate) c.put-placed.ensures.puts
    c.offset-offset.result other c.offset-offset.ensures c.count.ensures.stays c.count.ensures.begun
    c.count.ensures.none)))
