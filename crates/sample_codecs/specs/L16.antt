-- L16: 16-bit samples in two's complement, the most significant octet first (RFC 3551 section 4.5.11).
use Rattle.std.specs.Prelude.{ℕ, ℤ, ◌+◌, ◌*◌, ◌/◌, ◌%◌, List, [], ◌∷◌}
use Rattle.std.specs.List.{flat_map}
use Rattle.std.specs.Int.{w16, cast_signed, cast_unsigned}

-- the sample of two octets
abbrev pub sample_of : ℕ → ℕ → ℤ
sample_of high low = cast_signed w16 (256 * high + low)

-- the samples of octets, two for each; an octet left over says nothing
abbrev pub samples_of : List ℕ → List ℤ
samples_of [] = []
samples_of (over ∷ []) = []
samples_of (high ∷ low ∷ octets) = sample_of high low ∷ samples_of octets

-- the two octets of a sample
abbrev pub octets_in : ℤ → List ℕ
octets_in sample = cast_unsigned w16 sample / 256 ∷ cast_unsigned w16 sample % 256 ∷ []

-- the octets of samples
abbrev pub octets_of : List ℤ → List ℕ
octets_of samples = flat_map octets_in samples
