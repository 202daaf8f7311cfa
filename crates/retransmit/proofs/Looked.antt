-- A number looked up among packets in a row.
use Rattle.std.proofs.Common.{◌≡◌, ℕ, ◌+◌, ◌<◌, ◌≤◌, ◌%◌, ◌^◌, Bool, true, false, nat_eq, zero, suc, List, [], ◌∷◌}
use Rattle.std.proofs.Common.{length, Option, None, Some, cond, inl, inr, refl, sym, ap, ◌∙◌, arith}
use Rattle.std.specs.List.{slice_get}
use Rattle.std.proofs.lemmas.Bool.{cases_eq}
use Rattle.std.proofs.lemmas.Bool.Decides.{nat_tests}
use Rattle.std.proofs.lemmas.Option.{none-some, same_Some}
use Rattle.rtp_codec.specs.Sequence.{distance}
use Rattle.retransmit.specs.declared.owner.Owner.{Owner}
use Rattle.retransmit.specs.SentPacket.{SentPacket}
use Rattle.retransmit.specs.Window.{window_size, same_owner, resend_of, GoOn, AreInARow}
use Rattle.retransmit.specs.inner.ToOwner.{to_owner}
use Rattle.retransmit.specs.laws.SoFar.{of_number}

same : (m n : ℕ) → m ≡ n → nat_eq m n ≡ true
same m n e = grind (arith, nat_tests)

other : (m n : ℕ) → (m ≡ n → ⊥) → nat_eq m n ≡ false
other m n e = grind (arith, nat_tests)

-- Behind a number come others.
absent : (n : ℕ) (owner : Owner) (j m : ℕ) (ps : List SentPacket) → GoOn m ps → (n + j) % 2 ^ 16 ≡ m % 2 ^ 16
    → j + length ps < 2 ^ 16 → (resend_of n owner ps ≡ None) × (of_number n ps ≡ [])
absent n owner j m [] g e few = (refl, refl)
absent n owner j m (p ∷ ps) g e few =
    let no : nat_eq p.number n ≡ false = other p.number n (λ is. omega (arith, g.0, is, e, few)) in
    let rest = absent n owner (j + 1) p.number ps g.1 (omega (arith, g.0, e)) (omega (arith, few)) in
    (rw no rest.0, rw no rest.1)

found : (n : ℕ) (owner : Owner) (d : ℕ) (p : SentPacket) (ps : List SentPacket) → p.number < 2 ^ 16 → GoOn p.number ps
    → length ps < 2 ^ 16 → n ≡ (p.number + d) % 2 ^ 16 → d < 2 ^ 16
    → resend_of n owner (p ∷ ps) ≡ to_owner owner (slice_get (p ∷ ps) d)
found n owner zero p ps fits g few e lt =
    let yes : nat_eq p.number n ≡ true = same p.number n (omega (arith, fits, e)) in
    let none : resend_of n owner ps ≡ None =
    (absent n owner 0 p.number ps g (omega (arith, fits, e)) (omega (arith, few))).0 in
    rw (yes, none) refl
found n owner (suc d) p [] fits g few e lt =
    let no : nat_eq p.number n ≡ false = other p.number n (λ is. omega (arith, fits, e, lt, is)) in
    rw no refl
found n owner (suc d) p (q ∷ qs) fits g few e lt =
    let no : nat_eq p.number n ≡ false = other p.number n (λ is. omega (arith, fits, e, lt, is)) in
    rw no
    (found n owner d q qs (omega (arith, g.0)) g.1 (omega (arith, few)) (omega (arith, e, g.0)) (omega (arith, lt)))

-- what the place at the distance from the oldest packet has
pub looked_up : (window now : List SentPacket) (n : ℕ) (owner : Owner) (oldest : SentPacket) (a d i : ℕ)
    (there : Option SentPacket)
    → window ≡ now → AreInARow window → length window ≤ window_size → Some oldest ≡ slice_get window 0
    → a ≡ oldest.number → a < 2 ^ 16 → n < 2 ^ 16 → d ≡ distance a n → i ≡ d → there ≡ slice_get window i
    → resend_of n owner now ≡ to_owner owner there
looked_up window now n owner oldest a d i there view g few is number fits small e place at =
    ap (resend_of n owner) (sym view)
    ∙ go window g few is
    ∙ ap (to_owner owner) (ap (slice_get window) (sym place) ∙ sym at)
  where
    go : (ps : List SentPacket) → AreInARow ps → length ps ≤ window_size → Some oldest ≡ slice_get ps 0
        → resend_of n owner ps ≡ to_owner owner (slice_get ps d)
    go [] g few is = refl
    go (p ∷ ps) g few is =
        let first : oldest.number ≡ p.number = ap (λ (q : SentPacket). q.number) (same_Some oldest p is) in
        found n owner d p ps (omega (arith, number, first, fits)) g (omega (arith, few))
        (omega (arith, number, first, fits, small, e)) (omega (arith, e))

owned : (p x : SentPacket) (b : Bool) → cond b (Some p) None ≡ Some x → p ≡ x
owned p x true e = same_Some p x e
owned p x false e = absurd (cc)

only_one-here : (n : ℕ) (owner : Owner) (p : SentPacket) (ps : List SentPacket) (x : SentPacket) → GoOn p.number ps
    → length ps < 2 ^ 16 → resend_of n owner (p ∷ ps) ≡ Some x → p.number ≡ n → of_number n (p ∷ ps) ≡ x ∷ []
only_one-here n owner p ps x g few is e =
    let yes : nat_eq p.number n ≡ true = same p.number n e in
    let rest = absent n owner 0 p.number ps g (omega (arith, e)) (omega (arith, few)) in
    let first : resend_of n owner (p ∷ ps) ≡ cond (same_owner p.owner owner) (Some p) None = rw (yes, rest.0) refl in
    let all : of_number n (p ∷ ps) ≡ p ∷ [] = rw (yes, rest.1) refl in
    all ∙ ap (λ (q : SentPacket). q ∷ []) (owned p x (same_owner p.owner owner) (sym first ∙ is))

pub only_one : (n : ℕ) (owner : Owner) (p : SentPacket) (ps : List SentPacket) (x : SentPacket) → GoOn p.number ps
    → length ps < 2 ^ 16 → resend_of n owner (p ∷ ps) ≡ Some x → of_number n (p ∷ ps) ≡ x ∷ []
only_one n owner p [] x g few is = elim (cases_eq p.number n) [
  | inl e ↦ only_one-here n owner p [] x g few is e
  | inr e ↦
      let no : nat_eq p.number n ≡ false = other p.number n e in
      let none : resend_of n owner (p ∷ []) ≡ None = rw no refl in
      absurd (none-some x (sym none ∙ is))
]
only_one n owner p (q ∷ qs) x g few is = elim (cases_eq p.number n) [
  | inl e ↦ only_one-here n owner p (q ∷ qs) x g few is e
  | inr e ↦
      let no : nat_eq p.number n ≡ false = other p.number n e in
      let skipped : resend_of n owner (p ∷ q ∷ qs) ≡ resend_of n owner (q ∷ qs) = rw no refl in
      let left : of_number n (p ∷ q ∷ qs) ≡ of_number n (q ∷ qs) = rw no refl in
      left ∙ only_one n owner q qs x g.1 (omega (arith, few)) (sym skipped ∙ is)
]

-- in a window no other packet has the number of the one that is found
pub found_alone : (n : ℕ) (owner : Owner) (window : List SentPacket) (x : SentPacket) → AreInARow window
    → length window ≤ window_size → resend_of n owner window ≡ Some x → of_number n window ≡ x ∷ []
found_alone n owner [] x g few is = absurd (none-some x is)
found_alone n owner (p ∷ ps) x g few is = only_one n owner p ps x g (omega (arith, few)) is
