-- Two far numbers in a row.
use Rattle.std.proofs.Common.{◌≡◌, ℕ, ◌+◌, ◌≤◌, Bool, true, false, nat_lt, nat_le, nat_eq, Option, Some, refl, ap, ◌∙◌}
use Rattle.std.proofs.Common.{arith}
use Rattle.std.specs.Prelude.{pos}
use Rattle.std.proofs.lemmas.Bool.Decides.{nat_tests}
use Rattle.source_valid.specs.declared.verdict.Verdict.{Verdict}
use Rattle.source_valid.specs.declared.verdict.Verdict.TheVariants.{Jump, Restarted}
use Rattle.source_valid.specs.Stretches.{Stretch, begun, following, distance, greatest_of, judged, given, ext_limit}
use Rattle.source_valid.specs.Stretches.{max_dropout}
use Rattle.source_valid.specs.Histories.{Standing, Valid, after_number}
use Rattle.source_valid.specs.laws.Restarts.{Restarts}

-- what is a Jump is no dropout
far_by : (g : ℕ) (jump : Option ℕ) (n u : ℕ) (near full : Bool) → nat_lt u max_dropout ≡ near
    → nat_le ext_limit (g + u) ≡ full → judged g jump n u ≡ Jump → 3000 ≤ u
far_by g jump n u false full t e h = grind (arith, nat_tests)
far_by g jump n u true true t e h = absurd cc
far_by g jump n u true false t e h = absurd cc

-- nor is it out of order
apart_by : (g : ℕ) (jump : Option ℕ) (n u : ℕ) (near behind : Bool) → nat_lt u max_dropout ≡ near
    → nat_lt 65436 u ≡ behind → judged g jump n u ≡ Jump → u ≤ 65436
apart_by g jump n u true behind t e h = grind (arith, nat_tests)
apart_by g jump n u false false t e h = grind (arith, nat_tests)
apart_by g jump n u false true t e h = absurd cc

next : (g n : ℕ) → 3000 ≤ distance g n → distance g n ≤ 65436 → 3000 ≤ distance g (following n)
next g n far near = omega arith

anew : (g n u : ℕ) → 3000 ≤ u → u ≤ 65436 → judged g (Some n) (following n) u ≡ Restarted (pos (following n))
anew g n u far near =
    let a : nat_lt u 3000 ≡ false = grind (arith, nat_tests) in
    let b : nat_lt 65436 u ≡ false = grind (arith, nat_tests) in
    let c : nat_eq (following n) (following n) ≡ true = grind (arith, nat_tests) in
    rw (a, b, c) refl

pub restarts : Restarts
restarts s n jump near =
    let g = greatest_of s in
    let far : 3000 ≤ distance g n = far_by g s.jump n (distance g n) _ _ refl refl jump in
    let apart : distance g n ≤ 65436 = apart_by g s.jump n (distance g n) _ _ refl refl jump in
    let jumped : Stretch = record { base = s.base; accepted = s.accepted; jump = Some n; told = s.told } in
    let first : after_number (Valid s) n ≡ Valid jumped = ap (λ (v : Verdict). Valid (given v n s)) jump in
    let second : after_number (Valid jumped) (following n) ≡ Valid (begun (following n)) =
    ap (λ (v : Verdict). Valid (given v (following n) jumped))
    (anew g n (distance g (following n)) (next g n far apart) near) in
    ap (λ (st : Standing). after_number st (following n)) first ∙ second
