use Rattle.std.proofs.Common.{◌≡◌, ◌∙◌, sym, ap, ◌<◌, ◌≤◌, ◌+◌, ◌-◌, length, arith, subst, List}
use Rattle.playout.specs.declared.placed.PlacedSamples.TheVariants.{Kept}
use Rattle.playout.specs.Playout.{Pair, place_of}
use Rattle.playout.specs.inner.Agrees.{Agrees}
use Rattle.playout.proofs.Falls.{place_far, placed_kept, after_kept, count_is, late_part}
use Rattle.playout.proofs.putting.put_begun.Goals as goal

pub returns-else-offset-samples-clause-placed : goal.returns-else-offset-samples-clause-placed
returns-else-offset-samples-clause-placed g c = λ p pairs a w hp.
    (let far = c.distance-far.result in
    let off = far - 2147483648 in
    let ge : 2147483648 ≤ far = c.if-far.true in
    let is : place_of p c.args.ts ≡ p + off =
    place_far p c.args.ts c.args.position far w c.distance-far.ensures ∙ omega (arith, ge) in
    ap Kept (count_is _ _ _ (c.keep.ensures.count p pairs a))
    ∙ sym (placed_kept (length c.args.ring.now) p (p + off) c.args.ts pairs c.args.samples.now is
    (omega (arith, c.if-offset-samples.false, c.len-rate.ensures)) (omega arith) (omega (arith, c.requires.few.0))))

pub returns-else-samples-behind-clause-placed : goal.returns-else-samples-behind-clause-placed
returns-else-samples-behind-clause-placed g c = λ p pairs a w hp.
    (let far = c.distance-far.result in
    let b = 2147483648 - far in
    let lt : far < 2147483648 = omega (arith, c.if-far.false) in
    let near : b ≤ (length c.args.ring.now) = omega (arith, c.if-behind-rate.false, c.len-rate.ensures) in
    let some : b < length c.args.samples.now = omega (arith, c.if-samples-behind.false) in
    let is : place_of p c.args.ts ≡ p - b =
    place_far p c.args.ts c.args.position far w c.distance-far.ensures ∙ omega (arith, lt, hp) in
    let e : p - b + b ≡ p = omega (arith, lt, hp) in
    ap Kept (count_is _ _ _
    (ap length (late_part p (p - b) b pairs c.args.samples.now e) ∙ c.keep-else-far.ensures.count p pairs a))
    ∙ sym (placed_kept (length c.args.ring.now) p (p - b) c.args.ts pairs c.args.samples.now is
    (omega (arith, e, c.requires.few.1)) (omega (arith, e, near)) (omega (arith, e, some))))

pub returns-else-samples-behind-clause-agrees : goal.returns-else-samples-behind-clause-agrees
returns-else-samples-behind-clause-agrees g c = λ p pairs a w hp.
    (let far = c.distance-far.result in
    let b = 2147483648 - far in
    let lt : far < 2147483648 = omega (arith, c.if-far.false) in
    let near : b ≤ (length c.args.ring.now) = omega (arith, c.if-behind-rate.false, c.len-rate.ensures) in
    let some : b < length c.args.samples.now = omega (arith, c.if-samples-behind.false) in
    let is : place_of p c.args.ts ≡ p - b =
    place_far p c.args.ts c.args.position far w c.distance-far.ensures ∙ omega (arith, lt, hp) in
    let e : p - b + b ≡ p = omega (arith, lt, hp) in
    subst (λ (xs : List Pair). Agrees c.keep-else-far.new.self xs p)
    (sym (after_kept (length c.args.ring.now) p (p - b) c.args.ts pairs c.args.samples.now is
    (omega (arith, e, c.requires.few.1)) (omega (arith, e, near)) (omega (arith, e, some))
    ∙ late_part p (p - b) b pairs c.args.samples.now e))
    (c.keep-else-far.ensures.agrees p pairs a))
