-- What blocks tell of lost packets.
use Rattle.std.proofs.Common.{◌≡◌, ℕ, zero, suc, ◌+◌, ◌-◌, ◌*◌, ◌/◌, ◌^◌, ◌<◌, ◌≤◌, false, cond, Bool, nat_eq, refl}
use Rattle.std.proofs.Common.{sym, ap, ◌∙◌, subst, arith, min}
use Rattle.std.specs.Prelude.{ℤ, pos, negsuc, ◌+ℤ◌, ◌-ℤ◌, neg_ℤ}
use Rattle.std.specs.Int.{int_max, int_min}
use Rattle.std.proofs.lemmas.Bool.Decides.{nat_tests}
use Rattle.std.proofs.Math.Nat.{div-mul-le_self, lt-div-mul-add, mul-div_left, mul-le-mul_right, div-le_of_le-mul}
use Rattle.std.proofs.Math.Nat.{le_trans}
use Rattle.std.proofs.Math.IntN.{+ℤ_idl, +ℤ_assoc, +ℤ_invr, neg_ℤ-+ℤ, +ℤ-neg_ℤ_cancel}
use Rattle.rtcp_codec.specs.Report.{least_lost, most_lost}
use Rattle.source_valid.specs.Reports.{fraction_of}
use Rattle.source_valid.specs.laws.Losses.{Losses}

-- where some were expected
by_shares : (expected received : ℕ) → 0 < expected
    → fraction_of expected received ≡ min (256 * (expected - received) / expected) 255
by_shares expected received some =
    let test : nat_eq expected 0 ≡ false = grind (arith, nat_tests) in
    ap (λ (b : Bool). cond b 0 (min (256 * (expected - received) / expected) 255)) test

none_lost : (expected received : ℕ) → expected ≤ received → fraction_of expected received ≡ 0
none_lost zero received le = refl
none_lost (suc e) received le =
    let none : suc e - received ≡ 0 = omega arith in
    by_shares (suc e) received (omega arith)
    ∙ ap (λ (n : ℕ). min (256 * n / suc e) 255) none
    ∙ by (256 * 0 / suc e) (div-le_of_le-mul (suc e) {m = 256 * 0} {n = 0} (omega arith))
  where
    by : (q : ℕ) → q ≤ 0 → min q 255 ≡ 0
    by q le = omega (arith, le)

all_lost : (expected : ℕ) → 0 < expected → fraction_of expected 0 ≡ 255
all_lost e some =
    let whole : e - 0 ≡ e = omega arith in
    by_shares e 0 some
    ∙ ap (λ (n : ℕ). min (256 * n / e) 255) whole
    ∙ ap (λ (q : ℕ). min q 255) (mul-div_left 256 {n = e} some)

at_most : (expected received : ℕ) → fraction_of expected received ≤ 255
at_most zero received = omega arith
at_most (suc e) received = subst (λ (f : ℕ). f ≤ 255) (sym (by_shares (suc e) received (omega arith))) (omega arith)

not_more : (expected received : ℕ) → fraction_of expected received * expected ≤ 256 * (expected - received)
not_more zero received = omega arith
not_more (suc e) received =
    let a : ℕ = 256 * (suc e - received) in
    let few : min (a / suc e) 255 ≤ a / suc e = omega arith in
    subst (λ (f : ℕ). f * suc e ≤ a) (sym (by_shares (suc e) received (omega arith)))
    (le_trans (mul-le-mul_right (suc e) few) (div-mul-le_self a (suc e)))

not_less : (expected received : ℕ) → 0 < expected → fraction_of expected received < 255
    → 256 * (expected - received) < fraction_of expected received * expected + expected
not_less e received some lt =
    let a : ℕ = 256 * (e - received) in
    let shares : fraction_of e received ≡ min (a / e) 255 = by_shares e received some in
    let is : fraction_of e received ≡ a / e = shares ∙ by (a / e) (subst (λ (f : ℕ). f < 255) shares lt) in
    subst (λ (f : ℕ). a < f * e + e) (sym is) (lt-div-mul-add {a = a} {b = e} some)
  where
    by : (q : ℕ) → min q 255 < 255 → min q 255 ≡ q
    by q lt = omega (arith, lt)

difference_up : (r n : ℕ) → pos (r + n) -ℤ pos r ≡ pos n
difference_up r n =
    let turned : r + n ≡ n + r = omega arith in
    ap (λ (m : ℕ). pos m -ℤ pos r) turned ∙ +ℤ-neg_ℤ_cancel (pos n) (pos r)

difference_down : (e n : ℕ) → pos e -ℤ pos (e + (n + 1)) ≡ negsuc n
difference_down e n =
    let one : n + 1 ≡ suc n = omega arith in
    ap (λ (m : ℕ). pos e -ℤ pos (e + m)) one
    ∙ ap (λ (z : ℤ). pos e +ℤ z) (neg_ℤ-+ℤ (pos e) (pos (suc n)))
    ∙ sym (+ℤ_assoc (pos e) (neg_ℤ (pos e)) (negsuc n))
    ∙ ap (λ (z : ℤ). z +ℤ negsuc n) (+ℤ_invr (pos e))
    ∙ +ℤ_idl (negsuc n)

told : ℤ → ℤ
told d = int_max least_lost (int_min d most_lost)

few_lost : (n : ℕ) → n < 2 ^ 23 → told (pos n) ≡ pos n
unfolding told
few_lost n lt = grind (arith, nat_tests)

few_gained : (n : ℕ) → n < 2 ^ 23 → told (negsuc n) ≡ negsuc n
unfolding told
few_gained n lt = grind (arith, nat_tests)

many_lost : (n : ℕ) → 2 ^ 23 ≤ n → told (pos n) ≡ pos (2 ^ 23 - 1)
unfolding told
many_lost n le = grind (arith, nat_tests)

many_gained : (n : ℕ) → 2 ^ 23 ≤ n → told (negsuc n) ≡ negsuc (2 ^ 23 - 1)
unfolding told
many_gained n le = grind (arith, nat_tests)

pub losses : Losses
unfolding told
losses = record {
  none = none_lost;
  all = all_lost;
  most = at_most;
  not_more = not_more;
  not_less = not_less;
  lost = λ r n lt. ap told (difference_up r n) ∙ few_lost n lt;
  gained = λ e n lt. ap told (difference_down e n) ∙ few_gained n lt;
  too_many_lost = λ r n le. ap told (difference_up r n) ∙ many_lost n le;
  too_many_gained = λ e n le. ap told (difference_down e n) ∙ many_gained n le;
}
