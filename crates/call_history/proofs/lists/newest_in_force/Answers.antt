use Rattle.std.specs.Prelude.{◌++◌, ◌∷◌, ◌-◌, ◌+◌}
use Rattle.std.proofs.Common.{◌≡◌, [], take, reverse, length, sym, ap, ◌∙◌, arith}
use Rattle.std.proofs.lemmas.List.{take_all, take_more}
use Rattle.call_history.specs.AcceptedCall.{AcceptedOf}
use Rattle.call_history.specs.Lists.{standing}
use Rattle.call_history.proofs.Newest.{next, ended, enough}
use Rattle.call_history.proofs.lists.newest_in_force.Goals as goal

pub loop-left-init : goal.loop-left-init
loop-left-init g c =
    let done = c.args.done.now in
    let most = c.args.most in
    let calls = c.new-calls.ensures.items in
    let struck = c.new-struck.ensures.items in
    let all = take_all (length done) done (omega arith) in
    let full : most - 0 ≡ most = omega arith in
    record {
      within = omega arith;
      few = omega (arith, ap length calls);
      whole =
          (λ i. calls i ++ take (most - length (calls i)) (standing (struck i) (reverse (all i))))
          ∙ ap (λ n. take n (standing [] (reverse done))) full;
    }

pub loop-left-preserved : goal.loop-left-preserved
loop-left-preserved g c =
    let l = c.loop-left in
    let done = c.args.done.now in
    let m : AcceptedOf = c.index-done-left.result in
    let one : (l.left - 1) + 1 ≡ l.left = omega (arith, c.loop-left-test.true) in
    let is : take l.left done ≡ take (l.left - 1) done ++ m ∷ [] =
    ap (λ n. take n done) (sym one)
    ∙ take_more done (l.left - 1) m (omega (arith, c.loop-left-test.true, l.invariant.within))
    ∙ ap (λ x. take (l.left - 1) done ++ x ∷ []) (sym c.index-done-left.is) in
    let more =
    next l.struck.items c.list_one.new.struck.items (take l.left done) (take (l.left - 1) done) l.calls.items
    c.list_one.new.calls.items (take c.args.most (standing [] (reverse done))) m c.args.most is
    c.in_ok-list_one.ensures.calls c.in_ok-list_one.ensures.struck
    (omega (arith, c.len.ensures, c.if-len-most.false)) l.invariant.whole in
    record {
      within = omega (arith, c.loop-left-test.true, l.invariant.within);
      few = more.1;
      whole = more.0;
    }

pub returns-then-len-most : goal.returns-then-len-most
returns-then-len-most g c =
    let l = c.loop-left in
    let done = c.args.done.now in
    enough l.calls.items (take c.args.most (standing [] (reverse done)))
    (standing l.struck.items (reverse (take l.left done))) c.args.most
    (omega (arith, c.len.ensures, c.if-len-most.true)) l.invariant.whole

pub returns : goal.returns
returns g c =
    let l = c.loop-left in
    let done = c.args.done.now in
    let end : l.left ≡ 0 = omega (arith, c.loop-left-test.false) in
    ended l.struck.items (take l.left done) l.calls.items (take c.args.most (standing [] (reverse done)))
    (c.args.most - length l.calls.items) (ap (λ n. take n done) end) l.invariant.whole
