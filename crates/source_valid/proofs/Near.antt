-- A number that is near the greatest one is accepted as it is.
use Rattle.std.proofs.Common.{◌≡◌, ℕ, ◌+◌, ◌-◌, ◌^◌, ◌%◌, ◌<◌, ◌≤◌, Bool, true, false, nat_lt, nat_le, max, List, []}
use Rattle.std.proofs.Common.{◌∷◌, Option, refl, sym, ap, ◌∙◌, arith, subst, append_assoc, append-nil}
use Rattle.std.specs.Prelude.{fold, map, ℤ, pos, ◌-ℤ◌}
use Rattle.std.proofs.lemmas.Bool.Decides.{nat_tests}
use Rattle.std.proofs.lemmas.Int.{ints}
use Rattle.std.proofs.lemmas.List.Sums.{fold-append}
use Rattle.source_valid.specs.declared.verdict.Verdict.{Verdict}
use Rattle.source_valid.specs.declared.verdict.Verdict.TheVariants.{Accepted}
use Rattle.source_valid.specs.Stretches.{Stretch, greatest_of, further, distance, judged, verdict_in, given, ext_limit}
use Rattle.source_valid.specs.Histories.{Standing, Valid, after_number}
use Rattle.source_valid.specs.laws.TrueNumbers.{IsNear, AreNear, with_numbers}

distance-ahead : (g x : ℕ) → g ≤ x → x < g + 3000 → distance g (x % 2 ^ 16) ≡ x - g
distance-ahead g x above near = omega arith

distance-behind : (g x : ℕ) → x < g → g < x + 100 → distance g (x % 2 ^ 16) ≡ 2 ^ 16 - (g - x)
distance-behind g x below near = omega arith

judged-ahead : (g : ℕ) (jump : Option ℕ) (n x : ℕ) → g ≤ x → x < g + 3000 → x < ext_limit
    → judged g jump n (x - g) ≡ Accepted (pos x)
judged-ahead g jump n x above near limit =
    let e : g + (x - g) ≡ x = omega arith in
    let a : nat_lt (x - g) 3000 ≡ true = grind (arith, nat_tests) in
    let b : nat_le ext_limit (g + (x - g)) ≡ false = grind (arith, nat_tests) in
    rw (a, b, e) refl

judged-behind : (g : ℕ) (jump : Option ℕ) (n x : ℕ) → x < g → g < x + 100
    → judged g jump n (2 ^ 16 - (g - x)) ≡ Accepted (pos x)
judged-behind g jump n x below near =
    let a : nat_lt (2 ^ 16 - (g - x)) 3000 ≡ false = grind (arith, nat_tests) in
    let b : nat_lt 65436 (2 ^ 16 - (g - x)) ≡ true = grind (arith, nat_tests) in
    let e : pos g -ℤ pos (2 ^ 16 - (2 ^ 16 - (g - x))) ≡ pos x = omega (arith, ints) in
    rw (a, b) (ap (λ (z : ℤ). Accepted z) e)

near_by : (g : ℕ) (jump : Option ℕ) (x : ℕ) (b : Bool) → nat_lt x g ≡ b → IsNear g x
    → judged g jump (x % 2 ^ 16) (distance g (x % 2 ^ 16)) ≡ Accepted (pos x)
near_by g jump x true below h =
    let l : x < g = grind (arith, nat_tests) in
    rw (distance-behind g x l h.behind) (judged-behind g jump (x % 2 ^ 16) x l h.behind)
near_by g jump x false above h =
    let l : g ≤ x = grind (arith, nat_tests) in
    rw (distance-ahead g x l h.ahead) (judged-ahead g jump (x % 2 ^ 16) x l h.ahead h.limit)

pub verdict-near : (s : Stretch) (x : ℕ) → IsNear (greatest_of s) x → verdict_in s (x % 2 ^ 16) ≡ Accepted (pos x)
verdict-near s x h = near_by (greatest_of s) s.jump x (nat_lt x (greatest_of s)) refl h

after-near : (s : Stretch) (x : ℕ) → IsNear (greatest_of s) x
    → after_number (Valid s) (x % 2 ^ 16) ≡ Valid (with_numbers s (x ∷ []))
after-near s x h = ap (λ (v : Verdict). Valid (given v (x % 2 ^ 16) s)) (verdict-near s x h)

greatest-with : (s : Stretch) (x : ℕ) → greatest_of (with_numbers s (x ∷ [])) ≡ max (greatest_of s) x
greatest-with s x = fold-append further s.base s.accepted (pos x ∷ [])

pub true_numbers : (s : Stretch) (xs : List ℕ) → AreNear (greatest_of s) xs
    → fold after_number (Valid s) (map (λ x. x % 2 ^ 16) xs) ≡ Valid (with_numbers s xs)
true_numbers s [] h =
    ap (λ (l : List ℤ). Valid (record { base = s.base; accepted = l; jump = s.jump; told = s.told }))
    (sym (append-nil s.accepted))
true_numbers s (x ∷ xs) (h, t) =
    let near : AreNear (greatest_of (with_numbers s (x ∷ []))) xs =
    subst (λ (g : ℕ). AreNear g xs) (sym (greatest-with s x)) t in
    ap (λ (st : Standing). fold after_number st (map (λ y. y % 2 ^ 16) xs)) (after-near s x h)
    ∙ true_numbers (with_numbers s (x ∷ [])) xs near
    ∙ ap (λ (l : List ℤ). Valid (record { base = s.base; accepted = l; jump = s.jump; told = s.told }))
    (append_assoc s.accepted (pos x ∷ []) (map pos xs))
