-- A turn adds the number of a bit that is set.
use Rattle.std.proofs.Common.{◌≡◌, ◌-◌, ℕ, rules, sym, ap, ◌∙◌, arith}
use Rattle.rtcp_codec.specs.Nack.{most_bits}
use Rattle.rtcp_codec.specs.inner.Greedy.{numbers_up_to}
use Rattle.rtcp_codec.proofs.Words.{named_bit, unnamed_bit, numbers_are}
use Rattle.rtcp_codec.proofs.nack.nack_numbers.Goals as goal
use Rattle.rtcp_codec.proofs.nack.nack_numbers.Goals.{then-blp-i-eq1+in_ok-push-2, else-blp-i-eq1}

pub loop-i-init : goal.loop-i-init
unfolding numbers_up_to
loop-i-init g c = search rules

pub loop-i-preserved : goal.loop-i-preserved
loop-i-preserved g c =
    elim c.if-blp-i-eq1.branch [
      | then-blp-i-eq1+in_ok-push-2 w ↦
          let n = named_bit c.loop-i.i c.args.pid c.args.blp c.loop-i.auto.i w.if-blp-i-eq1.true in search (rules, n)
      | else-blp-i-eq1 w ↦
          let n = unnamed_bit c.loop-i.i c.args.pid c.args.blp c.loop-i.auto.i w.if-blp-i-eq1.false in search (rules, n)
    ]

pub returns : goal.returns
returns g c =
    let end : c.loop-i.i - 1 ≡ most_bits = omega arith in
    c.loop-i.invariant
    ∙ ap (λ (n : ℕ). numbers_up_to n c.args.pid c.args.blp) end
    ∙ sym (numbers_are c.args.pid c.args.blp)
