-- An extended sequence number's word is what is printed of it, and `-0` is 0.
use Rattle.std.proofs.Common.{◌≡◌, ℕ, ℤ, pos, negsuc, zero, suc, ◌-◌, ◌<◌, ◌≤◌, ◌^◌, ◌⊎◌, List, [], ◌∷◌, length, get_or}
use Rattle.std.proofs.Common.{Option, Some, None, refl, sym, ap, ◌∙◌, arith, eqb, true, false, inl, inr, codes, subst}
use Rattle.std.specs.Option.{option_map}
use Rattle.std.specs.Fmt.{decimal, signed_decimal}
use Rattle.std.proofs.lemmas.Fmt.{decimal_nonempty, decimal_digit}
use Rattle.std.proofs.lemmas.Bool.{cases_Bool, eqb-true}
use Rattle.desk_text.specs.Numbers.{decimal_of, negative, FitsExt, ext_of}
use Rattle.desk_text.proofs.NumberLemmas.{spelled, read}
use Rattle.desk_text.proofs.AddressLemmas.{digits_free}

unsigned : (word : List ℕ) → 0 < length word → eqb (get_or word 0 0) 45 ≡ false
    → ext_of word ≡ option_map pos (decimal_of (2 ^ 63 - 1) word)
unfolding ext_of
unsigned [] some plain = absurd (omega (arith, some))
unsigned (first ∷ rest) some plain = rw plain refl

signed : (rest : List ℕ) → ext_of (45 ∷ rest) ≡ option_map negative (decimal_of (2 ^ 63) rest)
unfolding ext_of
signed rest = refl

pub ext_read : (z : ℤ) → FitsExt z → ext_of (signed_decimal z) ≡ Some z
ext_read (pos n) small =
    let some : 0 < length (decimal n) = decimal_nonempty n (omega arith) in
    unsigned (decimal n) some (digits_free 45 n (λ h. omega arith) (omega arith) 0 0 some)
    ∙ rw (read (2 ^ 63 - 1) n (omega arith) (omega arith)) refl
ext_read (negsuc n) small = signed (decimal (suc n)) ∙ rw (read (2 ^ 63) (suc n) (omega arith) (omega arith)) refl

mapped : (f : ℕ → ℤ) (o : Option ℕ) (z : ℤ) → option_map f o ≡ Some z → (n : ℕ) × (o ≡ Some n) × (f n ≡ z)
mapped f (Some n) z e = (n, refl, cc)
mapped f None z e = absurd cc

some_of : {A : Type 0} (x y : A) → Some x ≡ Some y → x ≡ y
some_of x y e = cc

zero_text : decimal 0 ≡ codes "0"
zero_text = decimal_digit 0 (omega arith)

behind_minus : (rest : List ℕ) (z : ℤ) (n : ℕ) → rest ≡ decimal n → n ≤ 2 ^ 63 → negative n ≡ z
    → FitsExt z × ((45 ∷ rest ≡ signed_decimal z) ⊎ ((45 ∷ rest ≡ codes "-0") × (z ≡ pos 0)))
behind_minus rest z zero is small e =
    let in_range : 0 < 2 ^ 63 = omega arith in
    subst (λ (y : ℤ). FitsExt y × ((45 ∷ rest ≡ signed_decimal y) ⊎ ((45 ∷ rest ≡ codes "-0") × (y ≡ pos 0)))) e
    (in_range, inr (ap (λ (t : List ℕ). 45 ∷ t) (is ∙ zero_text), refl))
behind_minus rest z (suc n) is small e =
    let in_range : n < 2 ^ 63 = omega (arith, small) in
    subst (λ (y : ℤ). FitsExt y × ((45 ∷ rest ≡ signed_decimal y) ⊎ ((45 ∷ rest ≡ codes "-0") × (y ≡ pos 0)))) e
    (in_range, inl (ap (λ (t : List ℕ). 45 ∷ t) is))

with_minus : (first : ℕ) (rest : List ℕ) (z : ℤ) → eqb first 45 ≡ true
    → option_map negative (decimal_of (2 ^ 63) rest) ≡ Some z
    → FitsExt z × ((first ∷ rest ≡ signed_decimal z) ⊎ ((first ∷ rest ≡ codes "-0") × (z ≡ pos 0)))
with_minus first rest z minus e =
    let n = mapped negative (decimal_of (2 ^ 63) rest) z e in
    let word = spelled (2 ^ 63) n.0 rest (omega arith) n.1 in
    subst (λ (f : ℕ). FitsExt z × ((f ∷ rest ≡ signed_decimal z) ⊎ ((f ∷ rest ≡ codes "-0") × (z ≡ pos 0))))
    (sym (eqb-true first 45 minus)) (behind_minus rest z n.0 word.0 word.1 n.2)

without_minus : (word : List ℕ) (z : ℤ) → option_map pos (decimal_of (2 ^ 63 - 1) word) ≡ Some z
    → FitsExt z × ((word ≡ signed_decimal z) ⊎ ((word ≡ codes "-0") × (z ≡ pos 0)))
without_minus word z e =
    let n = mapped pos (decimal_of (2 ^ 63 - 1) word) z e in
    let spelt = spelled (2 ^ 63 - 1) n.0 word (omega arith) n.1 in
    let in_range : n.0 < 2 ^ 63 = omega (arith, spelt.1) in
    subst (λ (y : ℤ). FitsExt y × ((word ≡ signed_decimal y) ⊎ ((word ≡ codes "-0") × (y ≡ pos 0)))) n.2
    (in_range, inl spelt.0)

pub ext_spelled : (word : List ℕ) (z : ℤ) → ext_of word ≡ Some z
    → FitsExt z × ((word ≡ signed_decimal z) ⊎ ((word ≡ codes "-0") × (z ≡ pos 0)))
unfolding ext_of
ext_spelled [] z e = absurd cc
ext_spelled (first ∷ rest) z e =
    elim (cases_Bool (eqb first 45)) [
      | inl is ↦ with_minus first rest z is (rw is at e)
      | inr isnt ↦ without_minus (first ∷ rest) z (rw isnt at e)
    ]

pub minus_zero : ext_of (codes "-0") ≡ Some (pos 0)
minus_zero =
    ap (λ (t : List ℕ). ext_of (45 ∷ t)) (sym zero_text)
    ∙ (signed (decimal 0) ∙ rw (read (2 ^ 63) 0 (omega arith) (omega arith)) refl)
