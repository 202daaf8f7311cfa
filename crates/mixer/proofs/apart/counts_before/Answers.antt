use Rattle.std.proofs.Common.{◌≡◌, ◌+◌, ◌++◌, ◌∷◌, [], length, take, sym, ap, ◌∙◌, arith, slice_index_or, nat_lt}
use Rattle.std.proofs.lemmas.List.{length_push}
use mir.Val.{bool_byte}
use Rattle.mix_minus.specs.Mix.{present_in}
use Rattle.mixer.proofs.InFull.{there_count, most_one, one_pushed}
use Rattle.mixer.proofs.apart.counts_before.Goals as goal

pub loop-i-init : goal.loop-i-init
loop-i-init g c = record {
  most = omega arith;
  count = omega arith;
  long = ap length c.in_ok-push.ensures.items ∙ ap (λ xs. length (xs ++ 0 ∷ [])) c.in_ok-counts.ensures.items;
  counts = λ k le. let none : k ≡ 0 = omega (arith, le) in
      ap (λ xs. slice_index_or xs k 0)
      (c.in_ok-push.ensures.items ∙ ap (λ xs. xs ++ 0 ∷ []) c.in_ok-counts.ensures.items)
      ∙ ap (λ n. slice_index_or (0 ∷ []) n 0) none
      ∙ ap (λ n. length (present_in (take n c.args.inputs.now))) (sym none);
}

pub overflow_add-count : goal.overflow_add-count
overflow_add-count g c =
    omega (
      arith,
      most_one (nat_lt 0 (slice_index_or c.args.inputs.now c.loop-i.i
          (record { ssrc = 0; member = 0; samples = record { ref_ptr = (0, 0); now = [] }; filled = 0 })).filled),
      c.loop-i.invariant.most,
      c.loop-i-test.true,
      c.requires,
    )

pub loop-i-preserved : goal.loop-i-preserved
loop-i-preserved g c =
    let n = c.loop-i.i in
    let inputs = c.args.inputs.now in
    let here =
    slice_index_or inputs n
    (record { ssrc = 0; member = 0; samples = record { ref_ptr = (0, 0); now = [] }; filled = 0 }) in
    let count : c.loop-i.count + bool_byte (nat_lt 0 here.filled) ≡ length (present_in (take (n + 1) inputs)) =
    ap (λ k. k + bool_byte (nat_lt 0 here.filled)) c.loop-i.invariant.count
    ∙ sym (there_count n inputs _ c.loop-i-test.true) in
    record {
      most = omega (arith, most_one (nat_lt 0 here.filled), c.loop-i.invariant.most);
      count = count;
      long =
          ap length c.in_ok-push-2.ensures.items
          ∙ length_push c.loop-i.counts.items _
          ∙ ap (λ k. k + 1) c.loop-i.invariant.long;
      counts = λ k le. ap (λ xs. slice_index_or xs k 0) c.in_ok-push-2.ensures.items
          ∙ one_pushed (λ k. length (present_in (take k inputs))) c.loop-i.counts.items n _ c.loop-i.invariant.long
          c.loop-i.invariant.counts count k le;
    }

pub returns : goal.returns
returns g c = record {
  long = c.loop-i.invariant.long ∙ omega (arith, c.loop-i-test.false, c.loop-i.auto.i-end);
  count = λ k le. c.loop-i.invariant.counts k (omega (arith, le, c.loop-i-test.false, c.loop-i.auto.i-end));
}
