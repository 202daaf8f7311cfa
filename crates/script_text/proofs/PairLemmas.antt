-- Octets, two by two.
use Rattle.std.proofs.Common.{◌≡◌, ℕ, ◌+◌, ◌*◌, ◌-◌, ◌<◌, ◌≤◌, ◌/◌, ◌%◌, ◌&&◌, true, nat_eq, nat_le, List, []}
use Rattle.std.proofs.Common.{◌∷◌, ◌++◌, length, take, get_or, refl, ap, sym, ◌∙◌, arith, append_assoc}
use Rattle.std.proofs.lemmas.Bool.{and_parts, le-leb, leb-true, eqb-true}
use Rattle.std.proofs.lemmas.List.{take_more, take_all, length-take-le}
use Rattle.sample_codecs.specs.L16.{samples_of}
use Rattle.media_items.specs.Inputs.{most_at}
use Rattle.media_items.proofs.FormatLemmas.{halves}
use Rattle.script_text.specs.ItemLines.{is_sound, pair_number, pair_numbers}

-- ---- samples

-- what is asked of sound
sound_parts : (rate : ℕ) (octets : List ℕ) → is_sound rate octets ≡ true
    → (length octets % 2 ≡ 0) × (2 ≤ length octets) × (length octets ≤ 2 * most_at rate)
sound_parts rate octets h =
    let n = length octets in
    let whole = and_parts (nat_eq (n % 2) 0) (nat_le 2 n && nat_le n (2 * most_at rate)) h in
    let size = and_parts (nat_le 2 n) (nat_le n (2 * most_at rate)) whole.1 in
    (eqb-true (n % 2) 0 whole.0, leb-true 2 n size.0, leb-true n (2 * most_at rate) size.1)

pub sound_even : (rate : ℕ) (octets : List ℕ) → is_sound rate octets ≡ true → length octets % 2 ≡ 0
sound_even rate octets h = (sound_parts rate octets h).0

between : (most n : ℕ) → 1 ≤ n → n ≤ most → (nat_le 1 n && nat_le n most) ≡ true
between most n low high = ap (λ b. b && nat_le n most) (le-leb 1 n low) ∙ le-leb n most high

-- there is a sample, and no more than there may be
pub sound_halves : (rate : ℕ) (octets : List ℕ) → is_sound rate octets ≡ true
    → (nat_le 1 (length (samples_of octets)) && nat_le (length (samples_of octets)) (most_at rate)) ≡ true
sound_halves rate octets h =
    let parts = sound_parts rate octets h in
    rw (halves octets (length octets / 2) (omega (arith, parts.0)))
    (between (most_at rate) (length octets / 2) (omega (arith, parts.0, parts.1)) (omega (arith, parts.0, parts.2)))

-- ---- numbers

-- after whole numbers, octets are the numbers that they are alone
numbers_append : (xs ys : List ℕ) (n : ℕ) → length xs ≡ 2 * n
    → pair_numbers (xs ++ ys) ≡ pair_numbers xs ++ pair_numbers ys
numbers_append [] ys n e = refl
numbers_append (x ∷ []) ys n e = absurd (omega (arith, e))
numbers_append (x ∷ y ∷ xs) ys n e = ap (λ zs. pair_number x y ∷ zs) (numbers_append xs ys (n - 1) (omega (arith, e)))

-- one more number
pub paired_more : (octets : List ℕ) (i : ℕ) → 2 * i + 1 < length octets
    → pair_numbers (take (2 * i) octets) ++ pair_number (get_or octets (2 * i) 0) (get_or octets (2 * i + 1) 0) ∷ []
    ≡ pair_numbers (take (2 * (i + 1)) octets)
paired_more octets i lt =
    let a = get_or octets (2 * i) 0 in
    let b = get_or octets (2 * i + 1) 0 in
    let pair : take (2 * i + 1 + 1) octets ≡ take (2 * i) octets ++ a ∷ b ∷ [] =
    take_more octets (2 * i + 1) 0 lt
    ∙ ap (λ xs. xs ++ b ∷ []) (take_more octets (2 * i) 0 (omega (arith, lt)))
    ∙ append_assoc (take (2 * i) octets) (a ∷ []) (b ∷ []) in
    sym (numbers_append (take (2 * i) octets) (a ∷ b ∷ []) i (length-take-le (2 * i) octets (omega (arith, lt))))
    ∙ ap pair_numbers (sym pair) ∙ ap (λ k. pair_numbers (take k octets)) (omega arith)

-- no octet is left
pub all_paired : (octets : List ℕ) (i : ℕ) → length octets % 2 ≡ 0 → length octets / 2 ≤ i
    → pair_numbers (take (2 * i) octets) ≡ pair_numbers octets
all_paired octets i even le = ap pair_numbers (take_all (2 * i) octets (omega (arith, even, le)))
