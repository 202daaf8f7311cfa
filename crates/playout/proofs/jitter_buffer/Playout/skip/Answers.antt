use Rattle.std.proofs.Common.{refl, subst, ◌+◌, ◌%◌, ◌^◌, [], arith}
use Rattle.playout.specs.inner.Holds.{PlayoutOf, HasTaken}
use Rattle.playout.proofs.Taken.{blank_at, taken_by}
use Rattle.playout.proofs.jitter_buffer.Playout.skip.Goals as goal

pub invariant_of-self : goal.invariant_of-self
invariant_of-self g c = record {
  least = omega (arith, c.skip.ensures.long, c.self.invariant.least);
  most = omega (arith, c.skip.ensures.long, c.self.invariant.most);
  blank = λ none.
      blank_at c.skip.new.self (0 + c.args.count) (c.skip.ensures.agrees 0 [] (c.self.invariant.blank none 0));
}

pub returns-clause-taken : goal.returns-clause-taken
returns-clause-taken g c =
    let inside : PlayoutOf =
    record { begun = c.self.inside.begun; position = c.self.inside.position; cells = c.self.inside.ring } in
    let new : PlayoutOf =
    record {
      begun = c.self.inside.begun;
      position = (c.self.inside.position + c.args.count) % 2 ^ 32;
      cells = c.skip.new.self;
    } in
    subst (λ (old : PlayoutOf). HasTaken old new c.args.count) c.self.view_is
    (taken_by inside new c.args.count refl refl c.skip.ensures.long c.skip.ensures.agrees)
