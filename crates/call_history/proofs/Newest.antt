-- The newest calls that are in force, listed from the newest on.
use Rattle.std.specs.Prelude.{◌∷◌, ◌++◌, ◌-◌, ◌+◌, ◌≤◌, ◌<◌}
use Rattle.std.proofs.Common.{◌≡◌, ℕ, zero, suc, true, false, cond, List, [], take, drop, length, reverse, refl, sym}
use Rattle.std.proofs.Common.{ap, ◌∙◌, arith, append_assoc, append-nil, inl, inr}
use Rattle.std.proofs.lemmas.Bool.{cases_Bool}
use Rattle.std.proofs.lemmas.List.{take-append-drop, reverse-append, length-reverse, length-append, length-drop}
use Rattle.std.proofs.Math.Seq.{drop-append_seam}
use Rattle.desk_edit.specs.InForce.{is_struck, struck_by}
use Rattle.call_history.specs.AcceptedCall.{AcceptedOf}
use Rattle.call_history.specs.Lists.{deed_in, standing, last_few}

newest : (rest earlier : List AcceptedOf) (m : AcceptedOf) → rest ≡ earlier ++ m ∷ []
    → reverse rest ≡ m ∷ reverse earlier
newest rest earlier m is = ap reverse is ∙ reverse-append earlier (m ∷ [])

abbrev nothing : List AcceptedOf
nothing = []

take_one : {X : Type 0} (k : ℕ) (x : X) (xs : List X) → take (k + 1) (x ∷ xs) ≡ x ∷ take k xs
take_one k x xs = let e : k + 1 ≡ suc k = omega arith in ap (λ n. take n (x ∷ xs)) e

-- a call that is struck is passed over
pub over : (s : List ℕ) (rest earlier : List AcceptedOf) (m : AcceptedOf) → rest ≡ earlier ++ m ∷ []
    → is_struck s m.number ≡ true → standing s (reverse earlier) ≡ standing s (reverse rest)
over s rest earlier m is out =
    sym (ap (standing s) (newest rest earlier m is)
    ∙ ap (λ b. cond b (standing s (reverse earlier)) (m ∷ standing (struck_by (deed_in m.call) s) (reverse earlier)))
    out)

-- one call more is listed
pub listed : (s t : List ℕ) (rest earlier calls now whole : List AcceptedOf) (m : AcceptedOf) (most : ℕ)
    → rest ≡ earlier ++ m ∷ [] → is_struck s m.number ≡ false → t ≡ struck_by (deed_in m.call) s
    → now ≡ calls ++ m ∷ [] → length calls < most
    → calls ++ take (most - length calls) (standing s (reverse rest)) ≡ whole
    → now ++ take (most - length now) (standing t (reverse earlier)) ≡ whole
listed s t rest earlier calls now whole m most is up next more room before =
    let left = standing (struck_by (deed_in m.call) s) (reverse earlier) in
    let long : length now ≡ length calls + 1 = ap length more ∙ length-append calls (m ∷ []) in
    let count : most - length calls ≡ (most - length now) + 1 = omega (arith, long, room) in
    let whole_is : standing s (reverse rest) ≡ m ∷ left =
    ap (standing s) (newest rest earlier m is)
    ∙ ap (λ b. cond b (standing s (reverse earlier)) (m ∷ left)) up in
    (λ i. more i ++ take (most - length now) (standing (next i) (reverse earlier)))
    ∙ append_assoc calls (m ∷ []) (take (most - length now) left)
    ∙ ap (λ ms. calls ++ ms) (sym (take_one (most - length now) m left))
    ∙ sym (λ i. calls ++ take (count i) (whole_is i))
    ∙ before

-- one call more is looked at
pub next : (s t : List ℕ) (rest earlier calls now whole : List AcceptedOf) (m : AcceptedOf) (most : ℕ)
    → rest ≡ earlier ++ m ∷ [] → now ≡ cond (is_struck s m.number) calls (calls ++ m ∷ [])
    → t ≡ cond (is_struck s m.number) s (struck_by (deed_in m.call) s) → length calls < most
    → calls ++ take (most - length calls) (standing s (reverse rest)) ≡ whole →
    (now ++ take (most - length now) (standing t (reverse earlier)) ≡ whole) × (length now ≤ most)
next s t rest earlier calls now whole m most is more next_is room before = elim (cases_Bool (is_struck s m.number)) [
  | inl out ↦
      let same : now ≡ calls = more ∙ ap (λ b. cond b calls (calls ++ m ∷ [])) out in
      let still : t ≡ s = next_is ∙ ap (λ b. cond b s (struck_by (deed_in m.call) s)) out in (
        (λ i. same i ++ take (most - length (same i)) (standing (still i) (reverse earlier)))
            ∙ ap (λ ms. calls ++ take (most - length calls) ms) (over s rest earlier m is out)
            ∙ before,
        omega (arith, ap length same, room),
      )
  | inr up ↦
      let one : now ≡ calls ++ m ∷ [] = more ∙ ap (λ b. cond b calls (calls ++ m ∷ [])) up in
      let taken : t ≡ struck_by (deed_in m.call) s =
      next_is ∙ ap (λ b. cond b s (struck_by (deed_in m.call) s)) up in (
        listed s t rest earlier calls now whole m most is up taken one room before,
        omega (arith, ap length one, length-append calls (m ∷ []), room),
      )
]

-- where none is left
pub ended : (s : List ℕ) (rest calls whole : List AcceptedOf) (k : ℕ) → rest ≡ []
    → calls ++ take k (standing s (reverse rest)) ≡ whole → calls ≡ whole
ended s rest calls whole k none before =
    sym (append-nil calls)
    ∙ ap (λ ms. calls ++ ms) (sym (take_nil k))
    ∙ sym (ap (λ ms. calls ++ take k (standing s (reverse ms))) none)
    ∙ before where
      take_nil : (n : ℕ) → take n nothing ≡ []
      take_nil zero = refl
      take_nil (suc n) = refl

-- where enough are listed
pub enough : (calls whole more : List AcceptedOf) (most : ℕ) → most ≤ length calls
    → calls ++ take (most - length calls) more ≡ whole → calls ≡ whole
enough calls whole more most full before =
    let none : most - length calls ≡ 0 = omega (arith, full) in
    sym (append-nil calls) ∙ sym (ap (λ n. calls ++ take n more) none) ∙ before

-- the first of a list are the last of it turned round
pub few_turned : (most : ℕ) (ms : List AcceptedOf) → reverse (take most ms) ≡ last_few most (reverse ms)
few_turned most ms =
    let front = take most ms in
    let back = drop most ms in
    let turned : reverse ms ≡ reverse back ++ reverse front =
    ap reverse (sym (take-append-drop most ms)) ∙ reverse-append front back in
    let long : length (reverse ms) - most ≡ length (reverse back) =
    ap (λ n. n - most) (length-reverse ms) ∙ sym (length-reverse back ∙ length-drop most ms) in
    sym (drop-append_seam (reverse back) (reverse front)) ∙ sym (λ i. drop (long i) (turned i))
