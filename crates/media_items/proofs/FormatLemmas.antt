-- The samples of payloads: how many they are, by their formats.
use Rattle.std.proofs.Common.{◌≡◌, ℕ, ℤ, ◌-◌, ◌*◌, ◌/◌, ◌%◌, ◌≤◌, true, false, ◌&&◌, nat_eq, nat_le, List, [], ◌∷◌}
use Rattle.std.proofs.Common.{length, refl, ap, ◌∙◌, arith}
use Rattle.std.proofs.lemmas.List.{length-map}
use Rattle.std.proofs.lemmas.Bool.{and_parts, le-leb, leb-true, eqb-true, eqb-false}
use Rattle.sample_codecs.specs.MuLaw.{decoded}
use Rattle.sample_codecs.specs.L16.{samples_of, octets_of as l16_octets_of}
use Rattle.media_items.specs.Inputs.{is_audio_rate}
use Rattle.media_items.specs.Formats.{rate_of, most_of, octets_of, holds_whole, samples_of_packet}
use Rattle.media_items.specs.declared.format.Format.{Format}
use Rattle.media_items.specs.declared.format.Format.TheVariants.{Pcmu, L16At8000, L16At44100}

-- each sample has two octets
pub halves : (octets : List ℕ) (count : ℕ) → length octets ≡ 2 * count → length (samples_of octets) ≡ count
halves [] n e = omega (arith, e)
halves (x ∷ []) n e = absurd (omega (arith, e))
halves (x ∷ y ∷ octets) n e =
    let less = halves octets (n - 1) (omega (arith, e)) in
    omega (arith, e, less)

between : (most n : ℕ) → 1 ≤ n → n ≤ most → (nat_le 1 n && nat_le n most) ≡ true
between most n low high = ap (λ b. b && nat_le n most) (le-leb 1 n low) ∙ le-leb n most high

halved : (most : ℕ) (payload : List ℕ) → (nat_eq (length payload % 2) 0 && nat_le (length payload) (2 * most)) ≡ true
    → nat_eq (length payload) 0 ≡ false
    → (nat_le 1 (length (samples_of payload)) && nat_le (length (samples_of payload)) most) ≡ true
halved most payload whole some =
    let octets = and_parts (nat_eq (length payload % 2) 0) (nat_le (length payload) (2 * most)) whole in
    let even = eqb-true (length payload % 2) 0 octets.0 in
    let high = leb-true (length payload) (2 * most) octets.1 in
    rw (halves payload (length payload / 2) (omega (arith, even)))
    (between most (length payload / 2) (omega (arith, even, eqb-false (length payload) 0 some)) (omega (arith, high)))

few_halves : (most : ℕ) (payload : List ℕ)
    → (nat_eq (length payload % 2) 0 && nat_le (length payload) (2 * most)) ≡ true → most ≤ 8820
    → length (samples_of payload) ≤ 8820
few_halves most payload whole least =
    let octets = and_parts (nat_eq (length payload % 2) 0) (nat_le (length payload) (2 * most)) whole in
    let even = eqb-true (length payload % 2) 0 octets.0 in
    let high = leb-true (length payload) (2 * most) octets.1 in
    let many = halves payload (length payload / 2) (omega (arith, even)) in
    omega (arith, even, high, many, least)

-- audio that isn't empty has a sample, and no more than it may
pub sized_samples : (format : Format) (payload : List ℕ) → holds_whole format (length payload) ≡ true
    → nat_eq (length payload) 0 ≡ false
    → (nat_le 1 (length (samples_of_packet format payload))
    && nat_le (length (samples_of_packet format payload)) (most_of format))
    ≡ true
sized_samples Pcmu payload whole some =
    let parts = and_parts (nat_eq (length payload % 1) 0) (nat_le (length payload) 1600) whole in
    let high = leb-true (length payload) 1600 parts.1 in
    rw (length-map payload decoded)
    (between 1600 (length payload) (omega (arith, eqb-false (length payload) 0 some)) high)
sized_samples L16At8000 payload whole some = halved 1600 payload whole some
sized_samples L16At44100 payload whole some = halved 8820 payload whole some

-- a packet has no more samples than 200 ms at the highest clock rate
pub few_samples : (format : Format) (payload : List ℕ) → holds_whole format (length payload) ≡ true
    → length (samples_of_packet format payload) ≤ 8820
few_samples Pcmu payload whole =
    let parts = and_parts (nat_eq (length payload % 1) 0) (nat_le (length payload) 1600) whole in
    let high = leb-true (length payload) 1600 parts.1 in
    let same = length-map payload decoded in
    omega (arith, high, same)
few_samples L16At8000 payload whole = few_halves 1600 payload whole (omega arith)
few_samples L16At44100 payload whole = few_halves 8820 payload whole (omega arith)

pub length-l16_octets_of : (samples : List ℤ) → length (l16_octets_of samples) ≡ 2 * length samples
length-l16_octets_of [] = refl
length-l16_octets_of (s ∷ ss) = let rest = length-l16_octets_of ss in omega (arith, rest)

pub ruleset lengths = (length-l16_octets_of)

-- a payload has whole samples
pub whole_samples : (format : Format) (octets : ℕ) → holds_whole format octets ≡ true → octets % octets_of format ≡ 0
whole_samples format octets whole =
    let width = octets_of format in
    let parts = and_parts (nat_eq (octets % width) 0) (nat_le octets (width * most_of format)) whole in
    eqb-true (octets % width) 0 parts.0

pub rate_known : (format : Format) → is_audio_rate (rate_of format) ≡ true
rate_known Pcmu = refl
rate_known L16At8000 = refl
rate_known L16At44100 = refl

pub rate_fits : (format : Format) → rate_of format ≤ 90000
rate_fits Pcmu = omega arith
rate_fits L16At8000 = omega arith
rate_fits L16At44100 = omega arith
