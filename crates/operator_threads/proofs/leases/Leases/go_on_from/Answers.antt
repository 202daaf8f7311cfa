use Rattle.std.proofs.Common.{◌≡◌, ◌≤◌, ℕ, Bool, true, false, List, length, Option, nat_le}
use Rattle.std.proofs.Common.{refl, sym, ap, ◌∙◌, subst, arith}
use Rattle.std.proofs.lemmas.Bool.Decides.{nat_tests}
use Rattle.std.specs.Bool.{OnTrue}
use mathlib.Core.List.{IsPrefix}
use Rattle.published_desk.proofs.Prefixes.{prefix_shorter}
use Rattle.operator_threads.specs.Lease.{LeaseOf, LeasesOf, HasLearnt}
use Rattle.operator_threads.proofs.leases.Leases.go_on_from.Goals as goal

-- of two beginnings of one list that with more leases goes on from the other
more : (known now : LeasesOf) (a b : ℕ) → a ≡ length known.list → b ≡ length now.list
    → (all : List (Option LeaseOf)) → (now.book ≡ known.book → IsPrefix known.list all × IsPrefix now.list all)
    → (le : Bool) → nat_le a b ≡ le → OnTrue le (HasLearnt known now)
more known now a b few many all begin true is =
    let less : a ≤ b = grind (arith, nat_tests) in
    record {
      goes_on =
          λ (same : now.book ≡ known.book).
          let both = begin same in
          prefix_shorter known.list now.list all both.0 both.1 (omega (arith, less, few, many));
    }
more known now a b few many all begin false is = tt

pub returns : goal.returns
returns c =
    let before = c.known.inside.seen in
    let after = c.self.inside.seen in
    let all = c.learn_same.new.seen.log in
    rw (← c.self.view_is, ← c.known.view_is)
    (more (record { book = before.book; list = before.log }) (record { book = after.book; list = after.log })
    c.known.inside.count c.self.inside.count c.known.invariant c.self.invariant all
    (λ (same : after.book ≡ before.book).
    let both = c.learn_same.ensures (same ∙ sym (ap (λ s. s.book) c.again-both.ensures)) in
    (subst (λ (l : List (Option LeaseOf)). IsPrefix l all) (ap (λ s. s.log) c.again-both.ensures) both.0, both.1))
    (nat_le c.known.inside.count c.self.inside.count) refl)
