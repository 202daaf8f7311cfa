-- What a search finds is there and passes the test.
use Rattle.std.proofs.Common.{◌≡◌, ℕ, ◌<◌, Bool, true, false, cond, zero, suc, List, [], ◌∷◌, length, Some, refl, sym}
use Rattle.std.proofs.Common.{ap, ◌∙◌, subst, arith}
use Rattle.std.specs.Prelude.{find, filter, nat_eq, slice_index_or}
use Rattle.std.specs.List.{Contains}
use Rattle.std.proofs.lemmas.Option.{none-some, same_Some}
use Rattle.std.proofs.lemmas.Bool.Decides.{nat_tests}
use Rattle.retransmit.specs.declared.owner.Owner.{Owner}
use Rattle.retransmit.specs.Window.{is_for, resend_of}
use Rattle.retransmit.specs.laws.SoFar.{of_number}
use Rattle.retransmit.specs.SentPacket.{SentPacket}

there_later : (p : SentPacket) (ps : List SentPacket) (x : SentPacket) → Contains ps x → Contains (p ∷ ps) x
there_later p ps x c = (suc c.0, omega (arith, c.1), c.2)

in_step : (test : SentPacket → Bool) (p : SentPacket) (ps : List SentPacket) (x : SentPacket) (b : Bool) → test p ≡ b
    → (find test ps ≡ Some x → Contains ps x × (test x ≡ true)) → cond b (Some p) (find test ps) ≡ Some x
    → Contains (p ∷ ps) x × (test x ≡ true)
in_step test p ps x true is rest e =
    let same : p ≡ x = same_Some p x e in
    ((zero, omega arith, same), ap test (sym same) ∙ is)
in_step test p ps x false is rest e = let r = rest e in (there_later p ps x r.0, r.1)

pub found_there : (test : SentPacket → Bool) (ps : List SentPacket) (x : SentPacket) → find test ps ≡ Some x
    → Contains ps x × (test x ≡ true)
found_there test [] x e = absurd (none-some x e)
found_there test (p ∷ ps) x e = in_step test p ps x (test p) refl (found_there test ps x) e

-- a packet that passes is found, or another
finds_some : (test : SentPacket → Bool) (ps : List SentPacket) (k : ℕ) (x : SentPacket) → k < length ps
    → slice_index_or ps k x ≡ x → test x ≡ true → (y : SentPacket) × (find test ps ≡ Some y)
finds_some test [] k x lt is passes = absurd (omega (arith, lt))
finds_some test (p ∷ ps) zero x lt is passes = (p, rw (ap test is ∙ passes) refl)
finds_some test (p ∷ ps) (suc k) x lt is passes =
    some_of (test p) (finds_some test ps k x (omega (arith, lt)) is passes)
  where
    some_of : (b : Bool) → (y : SentPacket) × (find test ps ≡ Some y)
        → (y : SentPacket) × (cond b (Some p) (find test ps) ≡ Some y)
    some_of true rest = (p, refl)
    some_of false rest = rest

-- it stays where those that pass are picked out
stays : (test : SentPacket → Bool) (ps : List SentPacket) (k : ℕ) (x : SentPacket) → k < length ps
    → slice_index_or ps k x ≡ x → test x ≡ true → Contains (filter test ps) x
stays test [] k x lt is passes = absurd (omega (arith, lt))
stays test (p ∷ ps) zero x lt is passes =
    let yes : test p ≡ true = ap test is ∙ passes in
    let first : Contains (p ∷ filter test ps) x = (zero, omega arith, is) in
    rw yes first
stays test (p ∷ ps) (suc k) x lt is passes = behind (test p) (stays test ps k x (omega (arith, lt)) is passes)
  where
    behind : (b : Bool) → Contains (filter test ps) x → Contains (cond b (p ∷ filter test ps) (filter test ps)) x
    behind true rest = there_later p (filter test ps) x rest
    behind false rest = rest

only_of : (p x : SentPacket) → Contains (p ∷ []) x → p ≡ x
only_of p x (zero, lt, is) = is
only_of p x (suc k, lt, is) = absurd (omega (arith, lt))

-- a packet whose number no other has is found
pub found_again : (number : ℕ) (owner : Owner) (ps : List SentPacket) (x : SentPacket) → Contains ps x
    → x.number ≡ number → is_for number owner x ≡ true
    → ((y : SentPacket) → resend_of number owner ps ≡ Some y → of_number number ps ≡ y ∷ [])
    → resend_of number owner ps ≡ Some x
found_again number owner ps x there same passes alone =
    let some = finds_some (is_for number owner) ps there.0 x there.1 there.2 passes in
    let numbered : nat_eq x.number number ≡ true = grind (arith, nat_tests) in
    let kept = stays (λ (p : SentPacket). nat_eq p.number number) ps there.0 x there.1 there.2 numbered in
    some.1 ∙ ap Some (only_of some.0 x (subst (λ (qs : List SentPacket). Contains qs x) (alone some.0 some.1) kept))
