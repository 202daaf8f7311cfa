-- Octets, two by two.
use Rattle.std.proofs.Common.{◌≡◌, ℕ, ℤ, pos, suc, ◌+◌, ◌*◌, ◌-◌, ◌<◌, ◌/◌, ◌%◌, List, [], ◌∷◌, ◌++◌, length, take}
use Rattle.std.proofs.Common.{get_or, set, All, FitsSigned, refl, ap, sym, subst, ◌∙◌, arith, append_assoc}
use Rattle.std.specs.Int.{w16, cast_signed, cast_unsigned}
use Rattle.std.proofs.lemmas.Int.{to_z-of_z, of_z-to_z}
use Rattle.std.proofs.lemmas.List.{take_more, take_more_set, flat_map_more, length-take-le, length-set}
use Rattle.sample_codecs.specs.L16.{sample_of, samples_of, octets_in, octets_of}

-- after whole samples, octets are the samples that they are alone
samples_append : (xs ys : List ℕ) (n : ℕ) → length xs ≡ 2 * n → samples_of (xs ++ ys) ≡ samples_of xs ++ samples_of ys
samples_append [] ys n e = refl
samples_append (x ∷ []) ys n e = absurd (omega (arith, e))
samples_append (x ∷ y ∷ xs) ys n e = ap (λ zs. sample_of x y ∷ zs) (samples_append xs ys (n - 1) (omega (arith, e)))

-- one more sample is decoded
pub decoded_more : (octets : List ℕ) (samples : List ℤ) (i : ℕ) (z : ℤ) → 2 * i + 1 < length octets → i < length samples
    → z ≡ sample_of (get_or octets (2 * i) 0) (get_or octets (2 * i + 1) 0)
    → take i samples ≡ samples_of (take (2 * i) octets)
    → take (i + 1) (set samples i z) ≡ samples_of (take (2 * (i + 1)) octets)
decoded_more octets samples i z lt within is so_far =
    let a = get_or octets (2 * i) 0 in
    let b = get_or octets (2 * i + 1) 0 in
    let pair : take (2 * i + 1 + 1) octets ≡ take (2 * i) octets ++ a ∷ b ∷ [] =
    take_more octets (2 * i + 1) 0 lt
    ∙ ap (λ xs. xs ++ b ∷ []) (take_more octets (2 * i) 0 (omega (arith, lt)))
    ∙ append_assoc (take (2 * i) octets) (a ∷ []) (b ∷ []) in
    take_more_set samples i z within
    ∙ ap (λ xs. xs ++ z ∷ []) so_far
    ∙ ap (λ x. samples_of (take (2 * i) octets) ++ x ∷ []) is
    ∙ sym (samples_append (take (2 * i) octets) (a ∷ b ∷ []) i (length-take-le (2 * i) octets (omega (arith, lt))))
    ∙ ap samples_of (sym pair) ∙ ap (λ k. samples_of (take k octets)) (omega arith)

-- one more sample is encoded
pub encoded_more : (samples : List ℤ) (octets pair : List ℕ) (i : ℕ) (z : ℤ) → i < length samples
    → 2 * i + 1 < length octets
    → z ≡ get_or samples i (pos 0) → get_or pair 0 0 ∷ get_or pair 1 0 ∷ [] ≡ octets_in z
    → take (2 * i) octets ≡ octets_of (take i samples)
    → take (2 * (i + 1)) (set (set octets (2 * i) (get_or pair 0 0)) (2 * i + 1) (get_or pair 1 0))
    ≡ octets_of (take (i + 1) samples)
encoded_more samples octets pair i z within lt read is so_far =
    let a = get_or pair 0 0 in
    let b = get_or pair 1 0 in
    ap (λ k. take k (set (set octets (2 * i) a) (2 * i + 1) b)) (omega arith)
    ∙ take_more_set (set octets (2 * i) a) (2 * i + 1) b
    (subst (λ n. 2 * i + 1 < n) (sym (length-set octets (2 * i) a)) lt)
    ∙ ap (λ xs. xs ++ b ∷ []) (take_more_set octets (2 * i) a (omega (arith, lt)))
    ∙ append_assoc (take (2 * i) octets) (a ∷ []) (b ∷ [])
    ∙ ap (λ xs. take (2 * i) octets ++ xs) is ∙ ap (λ xs. xs ++ octets_in z) so_far
    ∙ flat_map_more octets_in [] (take i samples) z
    ∙ ap (λ x. octets_of (take i samples ++ x ∷ [])) read ∙ ap octets_of (sym (take_more samples i (pos 0) within))

-- what is written of a sample is its two octets
pub written : (z : ℤ) (pair : List ℕ) → FitsSigned w16 z → cast_unsigned w16 z < 65536
    → pair
    ≡ cast_unsigned w16 (cast_signed w16 (cast_unsigned w16 z)) / 256 % 256
    ∷ cast_unsigned w16 (cast_signed w16 (cast_unsigned w16 z)) % 256 ∷ []
    → get_or pair 0 0 ∷ get_or pair 1 0 ∷ [] ≡ octets_in z
written z pair fits few is =
    ap (λ xs. get_or xs 0 0 ∷ get_or xs 1 0 ∷ []) is
    ∙ ap (λ x. cast_unsigned w16 x / 256 % 256 ∷ cast_unsigned w16 x % 256 ∷ []) (to_z-of_z w16 z fits)
    ∙ ap (λ n. n ∷ cast_unsigned w16 z % 256 ∷ []) (high (cast_unsigned w16 z) few)
  where
    high : (n : ℕ) → n < 65536 → n / 256 % 256 ≡ n / 256
    high n lt = omega (arith, lt)

sample_back : (z : ℤ) → FitsSigned w16 z → sample_of (cast_unsigned w16 z / 256) (cast_unsigned w16 z % 256) ≡ z
sample_back z fits = ap (cast_signed w16) (whole (cast_unsigned w16 z)) ∙ to_z-of_z w16 z fits
  where
    whole : (n : ℕ) → 256 * (n / 256) + n % 256 ≡ n
    whole n = omega arith

octets_more : (samples : List ℤ) (octets : List ℕ)
    → samples_of (octets_of samples ++ octets) ≡ samples_of (octets_of samples) ++ samples_of octets
octets_more [] octets = refl
octets_more (z ∷ zs) octets =
    ap (λ xs. sample_of (cast_unsigned w16 z / 256) (cast_unsigned w16 z % 256) ∷ xs) (octets_more zs octets)

-- one more sample is what its octets decode to
pub back_more : (samples : List ℤ) (i : ℕ) → i < length samples → FitsSigned w16 (get_or samples i (pos 0))
    → samples_of (octets_of (take i samples)) ≡ take i samples
    → samples_of (octets_of (take (i + 1) samples)) ≡ take (i + 1) samples
back_more samples i within fits so_far =
    let z = get_or samples i (pos 0) in
    let more = take_more samples i (pos 0) within in
    ap (λ xs. samples_of (octets_of xs)) more ∙ ap samples_of (sym (flat_map_more octets_in [] (take i samples) z))
    ∙ octets_more (take i samples) (octets_in z)
    ∙ ap (λ xs. xs ++ sample_of (cast_unsigned w16 z / 256) (cast_unsigned w16 z % 256) ∷ []) so_far
    ∙ ap (λ x. take i samples ++ x ∷ []) (sample_back z fits) ∙ sym more

octets_back : (x y : ℕ) → x < 256 → y < 256 → octets_in (sample_of x y) ≡ x ∷ y ∷ []
octets_back x y few less =
    ap (λ n. n / 256 ∷ n % 256 ∷ []) (of_z-to_z w16 (256 * x + y) (omega (arith, few, less))) ∙ both
  where
    high : (256 * x + y) / 256 ≡ x
    high = omega (arith, few, less)

    low : (256 * x + y) % 256 ≡ y
    low = omega (arith, few, less)

    both : ◌≡◌ {A = List ℕ} ((256 * x + y) / 256 ∷ (256 * x + y) % 256 ∷ []) (x ∷ y ∷ [])
    both = ap (λ n. n ∷ (256 * x + y) % 256 ∷ []) high ∙ ap (λ n. x ∷ n ∷ []) low

-- octets are what their samples encode to
pub written_back : (octets : List ℕ) (count : ℕ) → length octets ≡ 2 * count → All (λ octet. octet < 256) octets
    → octets_of (samples_of octets) ≡ octets
written_back [] n e all = refl
written_back (x ∷ []) n e all = absurd (omega (arith, e))
written_back (x ∷ y ∷ octets) n e all =
    ap (λ xs. xs ++ octets_of (samples_of octets)) (octets_back x y (all 0 0 (omega arith)) (all 1 0 (omega arith)))
    ∙ ap (λ xs. x ∷ y ∷ xs)
    (written_back octets (n - 1) (omega (arith, e)) (λ k d lt. all (suc (suc k)) d (omega (arith, lt))))
