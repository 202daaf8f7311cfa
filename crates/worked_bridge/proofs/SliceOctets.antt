-- The octets of a slice are octets.
use Rattle.std.proofs.Common.{ℕ, suc, ◌<◌, List, [], ◌∷◌, get_or}
use Rattle.rtp_codec.specs.Octets.{AreOctets}

pub slice_octets : (octets : List ℕ) → ((i : ℕ) → get_or octets i 0 < 256) → AreOctets octets
slice_octets [] h = tt
slice_octets (x ∷ xs) h = (h 0, slice_octets xs (λ i. h (suc i)))
