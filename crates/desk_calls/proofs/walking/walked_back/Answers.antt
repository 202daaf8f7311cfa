use Rattle.std.proofs.Common.{◌≡◌, false, nat_lt, arith}
use Rattle.std.proofs.lemmas.Bool.Decides.{nat_tests}
use Rattle.std.proofs.lemmas.List.{nil_from_length}
use Rattle.desk_calls.proofs.RevertLemmas.{near_end, base_end, near_none, base_none, far_on, counted_on, stays_on}
use Rattle.desk_calls.proofs.walking.walked_back.Goals as goal

pub returns-then-number-low-clause-base : goal.returns-then-number-low-clause-base
returns-then-number-low-clause-base g c =
    let l = c.loop-entry in
    base_end c.args.number l.low l.rest.now c.args.entries.now c.in-Some.earlier.now c.in-Some.entry.now
    c.in-Some.ensures.cases.0 (grind (arith, nat_tests, c.number.ensures, c.if-number-low.true)) l.invariant.same

pub returns-then-number-low-clause-near : goal.returns-then-number-low-clause-near
returns-then-number-low-clause-near g c =
    let l = c.loop-entry in
    near_end c.args.number l.low l.count l.rest.now c.args.entries.now c.in-Some.earlier.now c.in-Some.entry.now
    c.in-Some.ensures.cases.0 (grind (arith, nat_tests, c.number.ensures, c.if-number-low.true)) l.invariant.sum
    l.invariant.few

pub returns-then-own-room-clause-far : goal.returns-then-own-room-clause-far
returns-then-own-room-clause-far g c =
    let l = c.loop-entry in
    far_on c.args.number l.low l.count l.rest.now c.args.entries.now c.in-Some.earlier.now c.in-Some.entry.now
    c.in-Some.ensures.cases.0 (grind (arith, nat_tests, c.number.ensures, c.if-number-low.false)) l.invariant.sum
    (omega (arith, c.counted-own.ensures, c.if-own-room.true, l.invariant.few))

pub loop-entry-preserved : goal.loop-entry-preserved
loop-entry-preserved g c =
    let l = c.loop-entry in
    let on : nat_lt c.in-Some.entry.now.number l.low ≡ false =
    grind (arith, nat_tests, c.number.ensures, c.if-number-low.false) in
    record {
      sum =
          counted_on c.args.number l.low l.count c.counted-own.result c.lower-low.result l.rest.now c.args.entries.now
          c.in-Some.earlier.now c.in-Some.entry.now c.in-Some.ensures.cases.0 on l.invariant.sum c.counted-own.ensures
          c.lower-low.ensures;
      same =
          stays_on c.args.number l.low c.lower-low.result l.rest.now c.args.entries.now c.in-Some.earlier.now
          c.in-Some.entry.now c.in-Some.ensures.cases.0 on l.invariant.same c.lower-low.ensures;
      few = omega (arith, c.if-own-room.false, l.invariant.few);
    }

pub returns-clause-base : goal.returns-clause-base
returns-clause-base g c =
    let l = c.loop-entry in
    base_none c.args.number l.low l.rest.now c.args.entries.now (nil_from_length l.rest.now c.in_default.ensures.cases)
    l.invariant.same

pub returns-clause-near : goal.returns-clause-near
returns-clause-near g c =
    let l = c.loop-entry in
    near_none c.args.number l.low l.count l.rest.now c.args.entries.now
    (nil_from_length l.rest.now c.in_default.ensures.cases) l.invariant.sum l.invariant.few
