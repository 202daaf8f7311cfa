-- What sound that is sized has of samples, and at which rates.
use Rattle.std.proofs.Common.{◌≡◌, ℕ, ◌*◌, ◌/◌, ◌≤◌, ◌<◌, Bool, true, false, ◌&&◌, nat_eq, nat_le, length, refl, arith}
use Rattle.std.proofs.lemmas.Bool.{and_parts, leb-true, eqb-true}
use Rattle.media_items.specs.Inputs.{Input, Sound, is_audio_rate, most_at, is_sized}

rate_within : (rate : ℕ) → is_audio_rate rate ≡ true → (50 ≤ rate) × (rate ≤ 48000)
rate_within rate h = by (nat_eq rate 8000) refl
  where
    by : (b : Bool) → nat_eq rate 8000 ≡ b → (50 ≤ rate) × (rate ≤ 48000)
    by true e = let is = eqb-true rate 8000 e in (omega (arith, is), omega (arith, is))
    by false e = let is = eqb-true rate 44100 (rw e at h) in (omega (arith, is), omega (arith, is))

pub sized_sound : (s : Sound) → is_sized (Input.audio s) ≡ true
    → (50 ≤ s.rate) × (s.rate ≤ 48000) × (0 < length s.samples) × (length s.samples * 5 ≤ s.rate)
sized_sound s h =
    let parts =
    and_parts (is_audio_rate s.rate) (nat_le 1 (length s.samples) && nat_le (length s.samples) (most_at s.rate)) h in
    let within = rate_within s.rate parts.0 in
    let sizes = and_parts (nat_le 1 (length s.samples)) (nat_le (length s.samples) (most_at s.rate)) parts.1 in
    let low = leb-true 1 (length s.samples) sizes.0 in
    let high : length s.samples ≤ s.rate / 5 = leb-true (length s.samples) (most_at s.rate) sizes.1 in
    (within.0, within.1, omega (arith, low), omega (arith, high))
