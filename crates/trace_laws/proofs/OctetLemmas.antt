-- Numbers and samples are read back from their octets.
use Rattle.std.proofs.Common.{◌≡◌, ℕ, ℤ, zero, suc, ◌+◌, ◌*◌, ◌/◌, ◌%◌, ◌<◌, ◌≤◌, ◌^◌, ◌≢◌, ◌&&◌, true}
use Rattle.std.proofs.Common.{nat_eq, nat_le, List, [], ◌∷◌, length, Ok, FitsSigned, refl, ap, ◌∙◌, arith, subst}
use Rattle.std.proofs.Common.{inl, inr, Some, sym}
use Rattle.std.specs.List.{All}
use Rattle.std.specs.Int.{w16, cast_signed, cast_unsigned}
use Rattle.std.specs.Fmt.{decimal, digits}
use Rattle.std.proofs.Math.Facts.{Fits-of_z}
use Rattle.std.proofs.lemmas.Bool.{and_parts, and_from, or_cases, le-leb, leb-true, eq-eqb, eqb-true}
use Rattle.std.proofs.lemmas.Int.{to_z-of_z}
use Rattle.std.proofs.lemmas.List.Elements.{All-head, All-tail}
use Rattle.hex.specs.Hex.{IsBytes, encode_lower}
use Rattle.hex.proofs.HexLemmas.{decode_of-encode_lower}
use Rattle.sample_codecs.specs.L16.{sample_of, samples_of, octets_of}
use Rattle.media_items.specs.Inputs.{Sound, is_audio_rate, most_at}
use Rattle.desk_text.specs.Numbers.{pairs_octets}
use Rattle.script_text.specs.ItemLines.{clock_of, samples_at, pair_numbers, numbers_at}
use Rattle.trace_laws.specs.Items.{IsAudio}

-- ---- numbers of 16 bits, two octets each

whole : (n : ℕ) → 256 * (n / 256) + n % 256 ≡ n
whole n = omega arith

-- two octets more
pair_bytes : (n : ℕ) (octets : List ℕ) → n < 2 ^ 16 → IsBytes octets → IsBytes (n / 256 ∷ n % 256 ∷ octets)
pair_bytes n octets small h zero = omega (arith, small)
pair_bytes n octets small h (suc zero) = omega arith
pair_bytes n octets small h (suc (suc k)) = h k

pub numbers_bytes : (ns : List ℕ) → All (λ n. n < 2 ^ 16) ns → IsBytes (pairs_octets ns)
numbers_bytes [] h = λ k. omega arith
numbers_bytes (n ∷ ns) h =
    pair_bytes n (pairs_octets ns) (All-head (λ n. n < 2 ^ 16) n ns h)
    (numbers_bytes ns (All-tail (λ n. n < 2 ^ 16) n ns h))

numbers_back : (ns : List ℕ) → pair_numbers (pairs_octets ns) ≡ ns
numbers_back [] = refl
numbers_back (n ∷ ns) =
    ap (λ x. x ∷ pair_numbers (pairs_octets ns)) (whole n) ∙ ap (λ xs. n ∷ xs) (numbers_back ns)

numbers_length : (ns : List ℕ) → length (pairs_octets ns) ≡ 2 * length ns
numbers_length [] = refl
numbers_length (n ∷ ns) = let rest = numbers_length ns in omega (arith, rest)

some_length : (ns : List ℕ) → ns ≢ [] → 1 ≤ length ns
some_length [] some = absurd (some refl)
some_length (n ∷ ns) some = omega arith

-- an even number of octets, two at least
even_some : (count n : ℕ) → n ≡ 2 * count → 1 ≤ count → (nat_eq (n % 2) 0 && nat_le 2 n) ≡ true
even_some count n is some =
    and_from (nat_eq (n % 2) 0) (nat_le 2 n) (eq-eqb (n % 2) 0 (omega arith)) (le-leb 2 n (omega arith))

-- the numbers of a NACK, written and read
pub numbers_again : (place : ℕ) (ns : List ℕ) → ns ≢ [] → All (λ n. n < 2 ^ 16) ns
    → numbers_at place (encode_lower (pairs_octets ns)) ≡ Ok ns
unfolding numbers_at
numbers_again place ns some small =
    rw (
      decode_of-encode_lower (pairs_octets ns) (numbers_bytes ns small),
      even_some (length ns) (length (pairs_octets ns)) (numbers_length ns) (some_length ns some),
      numbers_back ns,
    )
    refl

-- ---- samples of 16 bits

unsigned_small : (z : ℤ) → FitsSigned w16 z → cast_unsigned w16 z < 2 ^ 16
unsigned_small z fits = (Fits-of_z {w = w16} {z = z} fits).fits

pub samples_bytes : (zs : List ℤ) → All (FitsSigned w16) zs → IsBytes (octets_of zs)
samples_bytes [] h = λ k. omega arith
samples_bytes (z ∷ zs) h =
    pair_bytes (cast_unsigned w16 z) (octets_of zs) (unsigned_small z (All-head (FitsSigned w16) z zs h))
    (samples_bytes zs (All-tail (FitsSigned w16) z zs h))

sample_back : (z : ℤ) → FitsSigned w16 z → sample_of (cast_unsigned w16 z / 256) (cast_unsigned w16 z % 256) ≡ z
sample_back z fits = ap (cast_signed w16) (whole (cast_unsigned w16 z)) ∙ to_z-of_z w16 z fits

samples_back : (zs : List ℤ) → All (FitsSigned w16) zs → samples_of (octets_of zs) ≡ zs
samples_back [] h = refl
samples_back (z ∷ zs) h =
    ap (λ x. x ∷ samples_of (octets_of zs)) (sample_back z (All-head (FitsSigned w16) z zs h))
    ∙ ap (λ xs. z ∷ xs) (samples_back zs (All-tail (FitsSigned w16) z zs h))

samples_length : (zs : List ℤ) → length (octets_of zs) ≡ 2 * length zs
samples_length [] = refl
samples_length (z ∷ zs) = let rest = samples_length zs in omega (arith, rest)

sound_size : (most count n : ℕ) → n ≡ 2 * count → 1 ≤ count → count ≤ most
    → (nat_eq (n % 2) 0 && (nat_le 2 n && nat_le n (2 * most))) ≡ true
sound_size most count n is some few =
    and_from (nat_eq (n % 2) 0) (nat_le 2 n && nat_le n (2 * most)) (eq-eqb (n % 2) 0 (omega arith))
    (and_from (nat_le 2 n) (nat_le n (2 * most)) (le-leb 2 n (omega arith)) (le-leb n (2 * most) (omega arith)))

-- what the size of sound says
pub record Sized (rate count : ℕ) : Type 0 where
  pub clock : is_audio_rate rate ≡ true
  pub some : 1 ≤ count
  pub few : count ≤ most_at rate

sized_of : (rate count : ℕ)
    → (is_audio_rate rate && (nat_le 1 count && nat_le count (most_at rate))) ≡ true → Sized rate count
sized_of rate count h =
    let parts = and_parts (is_audio_rate rate) (nat_le 1 count && nat_le count (most_at rate)) h in
    let size = and_parts (nat_le 1 count) (nat_le count (most_at rate)) parts.1 in
    record {
      clock = parts.0;
      some = leb-true 1 count size.0;
      few = leb-true count (most_at rate) size.1;
    }

pub sound_sized : (s : Sound) → IsAudio s → Sized s.rate (length s.samples)
sound_sized s h = sized_of s.rate (length s.samples) h.sized

-- the samples of sound, written and read
pub samples_again : (place rate : ℕ) (zs : List ℤ) → Sized rate (length zs) → All (FitsSigned w16) zs
    → samples_at place rate (encode_lower (octets_of zs)) ≡ Ok zs
unfolding samples_at
samples_again place rate zs sized fit =
    rw (
      decode_of-encode_lower (octets_of zs) (samples_bytes zs fit),
      sound_size (most_at rate) (length zs) (length (octets_of zs)) (samples_length zs) sized.some sized.few,
      samples_back zs fit,
    )
    refl

-- ---- the clock rate

at_8000 : clock_of (decimal 8000) ≡ Some 8000
unfolding digits
at_8000 = refl

at_44100 : clock_of (decimal 44100) ≡ Some 44100
unfolding digits
at_44100 = refl

-- what holds of the two rates holds of the rate of sound
rates : (P : ℕ → Type 0) (rate count : ℕ) → P 8000 → P 44100 → Sized rate count → P rate
rates P rate count low high sized =
    elim (or_cases (nat_eq rate 8000) (nat_eq rate 44100) sized.clock) [
      | inl is ↦ subst P (sym (eqb-true rate 8000 is)) low
      | inr is ↦ subst P (sym (eqb-true rate 44100 is)) high
    ]

pub rate_again : (rate count : ℕ) → Sized rate count → clock_of (decimal rate) ≡ Some rate
rate_again rate count sized = rates (λ r. clock_of (decimal r) ≡ Some r) rate count at_8000 at_44100 sized

pub rate_small : (rate count : ℕ) → Sized rate count → rate < 2 ^ 64
rate_small rate count sized = rates (λ r. r < 2 ^ 64) rate count (omega arith) (omega arith) sized
