-- The formats of audio: their clock rates and payload types, and the samples of their payloads (RFC 3551 sections
-- 4.5.11, 4.5.14 and 6; L16 at 8000 Hz and its type 97 are own).
use Rattle.std.specs.Prelude.{ℕ, ℤ, ◌*◌, ◌/◌, ◌%◌, Bool, ◌&&◌, nat_eq, nat_le, List, [], ◌∷◌, map, find, Option}
use Rattle.sample_codecs.specs.MuLaw.{decoded, code_of}
use Rattle.sample_codecs.specs.L16.{samples_of, octets_of as l16_octets_of}
use Rattle.media_items.specs.Inputs.{most_at}
use Rattle.media_items.specs.declared.format.Format.{Format}
use Rattle.media_items.specs.declared.format.Format.TheVariants.{Pcmu, L16At8000, L16At44100}

-- the clock rate, in Hz
abbrev pub rate_of : Format → ℕ
rate_of Pcmu = 8000
rate_of L16At8000 = 8000
rate_of L16At44100 = 44100

-- the payload type
abbrev pub pt_of : Format → ℕ
pt_of Pcmu = 0
pt_of L16At8000 = 97
pt_of L16At44100 = 11

-- the samples of a tick of 20 ms at this clock rate (own)
abbrev pub tick_at : ℕ → ℕ
tick_at rate = rate / 50

-- the samples of a tick
abbrev pub tick_of : Format → ℕ
tick_of format = tick_at (rate_of format)

-- the most samples of a packet (own)
abbrev pub most_of : Format → ℕ
most_of format = most_at (rate_of format)

-- the octets of a sample
abbrev pub octets_of : Format → ℕ
octets_of Pcmu = 1
octets_of L16At8000 = 2
octets_of L16At44100 = 2

-- all formats
abbrev pub formats : List Format
formats = Pcmu ∷ L16At8000 ∷ L16At44100 ∷ []

-- the format of packets of this payload type in a room of this clock rate; a room has formats of its own rate alone
-- (own)
abbrev pub format_of_packet : (pt rate : ℕ) → Option Format
format_of_packet pt rate = find (λ f. nat_eq (rate_of f) rate && nat_eq (pt_of f) pt) formats

-- a payload of this many octets has whole samples, and no more than a packet may have
abbrev pub holds_whole : Format → ℕ → Bool
holds_whole format octets = nat_eq (octets % octets_of format) 0 && nat_le octets (octets_of format * most_of format)

-- the samples of a payload of this format: PCMU by its octets, L16 by two octets each
abbrev pub samples_of_packet : Format → List ℕ → List ℤ
samples_of_packet Pcmu payload = map decoded payload
samples_of_packet L16At8000 payload = samples_of payload
samples_of_packet L16At44100 payload = samples_of payload

-- samples as a format has them: an octet of mu-law each, or two octets each
abbrev pub encoded : Format → List ℤ → List ℕ
encoded Pcmu samples = map code_of samples
encoded L16At8000 samples = l16_octets_of samples
encoded L16At44100 samples = l16_octets_of samples
