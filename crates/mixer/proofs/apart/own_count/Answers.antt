use Rattle.std.proofs.Common.{◌+◌, [], length, ap, ◌∙◌, sym, arith, nat_eq, slice_index_or}
use Rattle.std.proofs.lemmas.List.{length-map, take_all}
use mir.Val.{bool_byte}
use Rattle.mix_minus.specs.Mix.{own_of}
use Rattle.mixer.specs.inner.Counted.{member_of}
use Rattle.mixer.proofs.InFull.{count_more, most_one}
use Rattle.mixer.proofs.apart.own_count.Goals as goal

pub overflow_add-count : goal.overflow_add-count
overflow_add-count c =
    omega (
      arith,
      most_one (nat_eq (slice_index_or c.args.members.now c.loop-i.i 0) c.args.member),
      c.loop-i.invariant.most,
      c.loop-i-test.true,
      c.requires,
    )

pub loop-i-preserved : goal.loop-i-preserved
loop-i-preserved c = record {
  most =
      omega (
        arith,
        most_one (nat_eq (slice_index_or c.args.members.now c.loop-i.i 0) c.args.member),
        c.loop-i.invariant.most,
      );
  count = λ inputs same.
      ap (λ k. k + bool_byte (nat_eq (slice_index_or c.args.members.now c.loop-i.i 0) c.args.member))
      (c.loop-i.invariant.count inputs same)
      ∙ sym (count_more c.args.member c.loop-i.i inputs c.args.members.now
      (record { ssrc = 0; member = 0; samples = record { ref_ptr = (0, 0); now = [] }; filled = 0 }) 0
      (omega (arith, c.loop-i-test.true, ap length same, length-map inputs member_of)) same);
}

pub returns : goal.returns
returns c inputs same =
    c.loop-i.invariant.count inputs same
    ∙ ap (λ xs. length (own_of c.args.member xs))
    (take_all c.loop-i.i inputs (omega (arith, c.loop-i-test.false, ap length same, length-map inputs member_of)))
