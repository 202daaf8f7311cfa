use Rattle.std.proofs.Common.{◌≡◌, ℕ, ◌+◌, ◌-◌, ◌^◌, suc, cond, Bool, List, ◌++◌, subst, refl, sym, ap, ◌∙◌, arith}
use Rattle.rtcp_codec.specs.Nack.{most_bits}
use Rattle.rtcp_codec.specs.inner.Greedy.{numbers_up_to}
use Rattle.rtcp_codec.proofs.Words.{turned, next_power, numbers_are}
use Rattle.rtcp_codec.proofs.Packing.{TakesUpTo, fit_after, takes_none, takes_more, takes_all}
use Rattle.rtcp_codec.proofs.nack.blp_from.Goals as goal
use Rattle.rtcp_codec.proofs.nack.blp_from.Goals.{then-is_set, else-is_set}

pub loop-i-init : goal.loop-i-init
unfolding numbers_up_to
loop-i-init c =
    record {
      names = refl;
      below = omega arith;
      power = refl;
      packed = takes_none c.args.pid c.args.numbers.now (omega arith);
      fit = λ k. omega (arith, c.type_inv.numbers k);
      left = omega arith;
    }

pub loop-i-preserved : goal.loop-i-preserved
loop-i-preserved c =
    let i = c.loop-i.invariant in
    let blp-is : c.if-is_set.blp ≡ cond c.without-is_set.result.0 (c.loop-i.blp + c.loop-i.bit) c.loop-i.blp =
    elim c.if-is_set.branch [
      | then-is_set w ↦
          w.blp-is ∙ sym (ap (λ (b : Bool). cond b (c.loop-i.blp + c.loop-i.bit) c.loop-i.blp) w.if-is_set.true)
      | else-is_set w ↦
          w.blp-is ∙ sym (ap (λ (b : Bool). cond b (c.loop-i.blp + c.loop-i.bit) c.loop-i.blp) w.if-is_set.false)
    ] in
    let t =
    turned c.without-is_set.result.0 c.loop-i.i c.args.pid c.loop-i.blp c.loop-i.bit c.if-is_set.blp c.loop-i.rest.now
    c.without-is_set.result.1.now c.args.numbers.now c.loop-i.auto.i i.power i.below i.names
    c.without-is_set.ensures.parts blp-is in
    record {
      names = t.names;
      below = t.below;
      power = next_power c.loop-i.i c.loop-i.bit c.loop-i.auto.i i.power;
      packed =
          takes_more c.without-is_set.result.0 c.loop-i.i c.args.pid c.loop-i.blp c.loop-i.bit c.if-is_set.blp
          c.loop-i.rest.now c.without-is_set.result.1.now c.loop-i.auto.i (omega arith) (omega arith) i.power i.below
          i.fit
          i.packed c.without-is_set.ensures.parts blp-is c.without-is_set.ensures.first.1;
      fit =
          fit_after c.without-is_set.result.0 _ c.loop-i.rest.now c.without-is_set.result.1.now i.fit
          c.without-is_set.ensures.parts;
      left = omega arith;
    }

pub overflow_cast-result : goal.overflow_cast-result
overflow_cast-result c =
    let end : c.loop-i.i ≡ suc most_bits = omega arith in
    let power : c.loop-i.bit ≡ 2 ^ 16 = c.loop-i.invariant.power ∙ ap (λ (j : ℕ). 2 ^ (j - 1)) end in
    omega (arith, power)

pub returns-clause-names : goal.returns-clause-names
returns-clause-names c =
    let end : most_bits ≡ c.loop-i.i - 1 = omega arith in
    ap (λ (l : List ℕ). l ++ c.loop-i.rest.now)
    (numbers_are c.args.pid c.loop-i.blp ∙ ap (λ (n : ℕ). numbers_up_to n c.args.pid c.loop-i.blp) end)
    ∙ c.loop-i.invariant.names

pub returns-clause-packed : goal.returns-clause-packed
returns-clause-packed c =
    let end : c.loop-i.i - 1 ≡ most_bits = omega arith in
    takes_all c.args.pid c.loop-i.blp c.loop-i.rest.now
    (subst (λ (n : ℕ). TakesUpTo n c.args.pid c.loop-i.blp c.loop-i.rest.now) end c.loop-i.invariant.packed)
