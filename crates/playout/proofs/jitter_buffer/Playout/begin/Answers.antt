use Rattle.std.proofs.Common.{◌*◌, ◌/◌, [], List, Option, ℤ, refl, sym, ap, subst, arith}
use Rattle.playout.specs.inner.Agrees.{IsBlank}
use Rattle.playout.specs.inner.Holds.{PlayoutOf}
use Rattle.playout.proofs.Begun.{length-offers}
use Rattle.playout.proofs.jitter_buffer.Playout.begin.Goals as goal

pub returns-clause-count : goal.returns-clause-count
returns-clause-count g c =
    let cells = sym (ap (λ (held : PlayoutOf). held.cells) c.self.view_is) in
    let kept = c.keep.ensures.count 0 [] (subst (λ (cs : List (Option ℤ)). IsBlank cs) cells c.requires.blank 0) in
    let all = length-offers 0 (c.len.result * 60 / 1000) [] c.args.samples.now (λ n above. refl) in
    omega (arith, kept, all)
