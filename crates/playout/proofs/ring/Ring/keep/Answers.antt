use Rattle.std.proofs.Common.{◌∙◌, ◌+◌, ℕ, sym, ap, subst, List, Option, ℤ, length}
use Rattle.playout.specs.inner.Agrees.{Agrees}
use Rattle.playout.specs.Playout.{offers}
use Rattle.playout.proofs.Turned.{fills_agree}
use Rattle.playout.proofs.Arrays.{length-fills}
use Rattle.playout.proofs.ring.Ring.keep.Goals as goal

pub returns : goal.returns
returns g c =
    let new = c.args.samples.now in
    let at = c.args.offset in
    record {
      agrees = λ p pairs a.
          subst (λ (cells : List (Option ℤ)). Agrees cells (offers p pairs (p + at) new) p) (sym c.write.ensures.cells)
          (fills_agree new c.args.self.now pairs p at c.requires.within a).0;
      count = λ p pairs a.
          (fills_agree new c.args.self.now pairs p at c.requires.within a).1
          ∙ ap (λ (n : ℕ). length pairs + n) (sym c.write.ensures.count);
      long = ap length c.write.ensures.cells ∙ length-fills c.args.self.now at new;
    }
