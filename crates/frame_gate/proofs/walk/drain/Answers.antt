use Rattle.std.proofs.Common.{◌≡◌, ℕ, ◌+◌, ◌-◌, ◌≤◌, length, List, [], ◌∷◌, ◌++◌, None, Some, sym, ap, ◌∙◌, subst}
use Rattle.std.proofs.Common.{arith, length-append, inl, inr}
use Rattle.std.proofs.lemmas.Bool.{cases_lt}
use Rattle.frame_gate.specs.Packets.{NumberedPacket}
use Rattle.frame_gate.specs.declared.walk.Walk.{Walk}
use Rattle.frame_gate.specs.Runs.{Divided, row, divide_on}
use Rattle.std.specs.Option.{option_copied}
use Rattle.frame_gate.specs.inner.Cells.{held}
use Rattle.frame_gate.specs.inner.Walks.{Stands}
use Rattle.frame_gate.proofs.Rows.{row-push, row-ends}
use Rattle.frame_gate.proofs.Wholes.{divide-goes_on}
use Rattle.frame_gate.proofs.Divisions.{divide-push}
use Rattle.frame_gate.proofs.walk.drain.Goals as goal

pub returns-in-None-clause-stands : goal.returns-in-None-clause-stands
returns-in-None-clause-stands g c = λ cut given earlier d h goes_on.
    let at = held c.args.cells.now (option_copied c.args.newcomer) in
    let start = c.args.from.after in
    let n = c.loop-number.number in
    let none : at n ≡ None = sym c.find_held.ensures ∙ ap option_copied c.in-None.is in
    let above : start ≤ n = omega arith in
    let below : n ≤ c.args.to = omega arith in
    subst (λ (run : List NumberedPacket).
    Stands at cut given earlier (divide_on d run) c.loop-number.walk c.loop-number.frames.items)
    (row-ends at start c.args.to n above below c.loop-number.invariant.long none)
    (c.loop-number.invariant.stands cut given earlier d h goes_on)

pub returns-clause-stands : goal.returns-clause-stands
returns-clause-stands g c = λ cut given earlier d h goes_on.
    let at = held c.args.cells.now (option_copied c.args.newcomer) in
    let start = c.args.from.after in
    let n = c.loop-number.number in
    let e : n - start ≡ c.args.to - start =
    elim (cases_lt c.args.to start) [
      | inl under ↦ (let still : n ≡ start = c.loop-number.invariant.still under in omega arith)
      | inr over ↦ omega arith
    ] in
    subst
    (λ (k : ℕ).
    Stands at cut given earlier (divide_on d (row at start k)) c.loop-number.walk c.loop-number.frames.items)
    e
    (c.loop-number.invariant.stands cut given earlier d h goes_on)

pub loop-number-preserved : goal.loop-number-preserved
loop-number-preserved g c =
    let at = held c.args.cells.now (option_copied c.args.newcomer) in
    let start = c.args.from.after in
    let n = c.loop-number.number in
    let walk = c.loop-number.walk in
    let new = c.in_ok-walk-in-Some.walk in
    let p = c.in-Some.packet.now in
    let here : at n ≡ Some p = sym c.find_held.ensures ∙ ap option_copied c.in-Some.is in
    let above : start ≤ n = omega arith in
    let run = row at start (n - start) in
    let more : row at start (n + 1 - start) ≡ run ++ p ∷ [] =
    row-push at start c.args.to n p above c.loop-number.invariant.long here in
    let found : at walk.after ≡ Some p = ap at c.loop-number.invariant.after ∙ here in
    let after : new.after ≡ walk.after + 1 = c.in_ok-walk-in-Some.ensures.after in
    let moved : (walk.next ≤ new.next) × (new.next ≤ new.after) =
    c.in_ok-walk-in-Some.ensures.next c.loop-number.invariant.next.1 in
    let long : length run + 1 ≡ n + 1 - start =
    (let e : length run ≡ n - start = c.loop-number.invariant.long in omega arith) in
    record {
      after = after ∙ ap (λ k. k + 1) c.loop-number.invariant.after;
      long = ap length more ∙ length-append run (p ∷ []) ∙ long;
      stands = λ cut given earlier d h goes_on.
          subst (λ (x : Divided). Stands at cut given earlier x new c.follow.new.frames.items)
          (divide-push d run (row at start (n + 1 - start)) p more)
          (c.in_ok-walk-in-Some.ensures.stands cut given earlier (divide_on d run)
          (c.loop-number.invariant.stands cut given earlier d h goes_on) (divide-goes_on d run goes_on) found);
      still = λ below. absurd (let t = c.loop-number-test.true in omega arith);
      next = ((let a = c.loop-number.invariant.next.0 in omega arith), moved.1);
      begun = λ is. absurd (omega arith);
      fresh = λ first stamp _. elim (cases_lt start n) [
        | inl later ↦ (let k : start + 1 ≤ walk.next = c.loop-number.invariant.fresh first stamp later in omega arith)
        | inr same ↦
            (let is : n ≡ start = omega arith in
            let begun : walk ≡ c.args.from = c.loop-number.invariant.begun is in
            let k : walk.after + 1 ≤ new.next =
            c.in_ok-walk-in-Some.ensures.fresh (ap (λ (w : Walk). w.first) begun ∙ first)
            (ap (λ (w : Walk). w.stamp) begun ∙ stamp) in
            let a : walk.after ≡ n = c.loop-number.invariant.after in
            omega arith)
      ];
    }
