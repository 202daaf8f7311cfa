-- The one octet that holds a sample is the one that is found.
use Rattle.std.proofs.Common.{◌≡◌, ℕ, ℤ, zero, suc, pos, negsuc, ◌+◌, ◌*◌, ◌^◌, ◌<◌, ◌≤◌, ◌<ℤ◌, Bool, true, false, cond}
use Rattle.std.proofs.Common.{nat_le, nat_lt, List, [], ◌∷◌, length, take, map, refl, sym, ap, ◌∙◌, arith, inl, inr}
use Rattle.std.specs.Prelude.{◌↔◌}
use Rattle.std.specs.List.{AllZip}
use Rattle.std.proofs.lemmas.Bool.{and_parts, and_from, leb-true, ltb-true, le-leb, lt-ltb, cases_lt, cases_eq}
use Rattle.std.proofs.lemmas.Bool.{false≢true}
use Rattle.std.proofs.lemmas.Int.{ints}
use Rattle.std.proofs.lemmas.List.{take_all}
use Rattle.sample_codecs.specs.MuLaw.{has_sign, turned, segment, step, biased, Holds, IsCode, holds, code_below}
use Rattle.sample_codecs.specs.MuLaw.{code_of}

sign-true : (sample : ℤ) (code : ℕ) → ((128 ≤ turned code) ↔ (sample <ℤ pos 0)) → has_sign sample code ≡ true
sign-true (pos n) code h = lt-ltb (turned code) 128 (above (turned code) h.0)
  where
    above : (t : ℕ) → (128 ≤ t → pos n <ℤ pos 0) → t < 128
    above t f = elim (cases_lt t 128) [
      | inl lt ↦ lt
      | inr ge ↦ let no = f ge in absurd (omega (arith, ints, no))
    ]
sign-true (negsuc n) code h = le-leb 128 (turned code) (h.1 (omega (arith, ints)))

true-sign : (sample : ℤ) (code : ℕ) → has_sign sample code ≡ true → (128 ≤ turned code) ↔ (sample <ℤ pos 0)
true-sign (pos n) code h =
    let low : turned code < 128 = ltb-true (turned code) 128 h in
    (λ high. absurd (omega (arith, low, high)), λ less. absurd (omega (arith, ints, less)))
true-sign (negsuc n) code h = (λ high. omega (arith, ints), λ less. leb-true 128 (turned code) h)

holds-true : (sample : ℤ) (code : ℕ) → Holds sample code → holds sample code ≡ true
holds-true sample code h =
    and_from _ _ (le-leb _ _ h.low) (and_from _ _ (lt-ltb _ _ h.high) (sign-true sample code h.sign))

true-holds : (sample : ℤ) (code : ℕ) → code < 256 → holds sample code ≡ true → Holds sample code
true-holds sample code octet h =
    let low = and_parts (nat_le ((128 + 8 * step code) * 2 ^ segment code) (biased sample)) _ h in
    let high =
    and_parts (nat_lt (biased sample) ((136 + 8 * step code) * 2 ^ segment code)) (has_sign sample code) low.1 in
    record { octet = octet; low = leb-true _ _ low.0; high = ltb-true _ _ high.0; sign = true-sign sample code high.1 }

-- the search meets the octet, or has met it
met : (sample : ℤ) (code n : ℕ) (b : Bool) → IsCode sample code → n < 256 → code < suc n → holds sample n ≡ b
    → (code < n → code_below sample n ≡ code) → cond b n (code_below sample n) ≡ code
met sample code n true is octet lt e rest = is.one n (true-holds sample n octet e)
met sample code n false is octet lt e rest = elim (cases_eq code n) [
  | inl same ↦ absurd (false≢true (sym e ∙ ap (holds sample) (sym same) ∙ holds-true sample code is.holds))
  | inr other ↦ rest (omega (arith, other, lt))
]

found_below : (sample : ℤ) (code n : ℕ) → IsCode sample code → n ≤ 256 → code < n → code_below sample n ≡ code
found_below sample code zero is few lt = absurd (omega (arith, lt))
found_below sample code (suc n) is few lt =
    met sample code n (holds sample n) is (omega (arith, few)) lt refl
    (found_below sample code n is (omega (arith, few)))

code_is : (sample : ℤ) (code : ℕ) → IsCode sample code → code ≡ code_of sample
unfolding code_of
code_is sample code is = sym (found_below sample code 256 is (omega arith) is.holds.octet)

codes_are : (samples : List ℤ) (codes : List ℕ) → AllZip IsCode samples codes → codes ≡ map code_of samples
codes_are [] [] all = refl
codes_are [] (c ∷ cs) all = absurd all
codes_are (s ∷ ss) [] all = absurd all
codes_are (s ∷ ss) (c ∷ cs) all =
    ap (λ k. k ∷ cs) (code_is s c all.0) ∙ ap (λ ks. code_of s ∷ ks) (codes_are ss cs all.1)

-- once all samples are encoded
pub codes_of_all : (samples : List ℤ) (codes : List ℕ) (i : ℕ) → length codes ≡ length samples → length codes ≤ i
    → AllZip IsCode (take i samples) (take i codes) → codes ≡ map code_of samples
codes_of_all samples codes i same all held =
    sym (take_all i codes all)
    ∙ codes_are (take i samples) (take i codes) held
    ∙ ap (map code_of) (take_all i samples (omega (arith, same, all)))
