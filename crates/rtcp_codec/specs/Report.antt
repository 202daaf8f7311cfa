-- Report blocks and their octets (RFC 3550 section 6.4.1).
use Rattle.std.specs.Prelude.{ℕ, ◌+◌, ◌-◌, ◌/◌, ◌%◌, ◌^◌, ◌<◌, List, [], ◌∷◌, ◌++◌, ℤ, pos, negsuc, ◌≤ℤ◌}
use Rattle.std.specs.Int.{w32, to_be_bytes}
use Rattle.rtcp_codec.specs.declared.report.ReportBlock.{ReportBlock}

-- the number that the 24 bits of a signed number spell, in two's complement
abbrev pub twos_complement : ℤ → ℕ
twos_complement (pos n) = n
twos_complement (negsuc n) = 2 ^ 24 - (n + 1)

-- a number of 24 bits in network order
abbrev pub octets_24 : ℕ → List ℕ
octets_24 n = n / 2 ^ 16 % 256 ∷ n / 2 ^ 8 % 256 ∷ n % 256 ∷ []

-- the 24 octets of a report block
abbrev pub block_octets : ReportBlock → List ℕ
block_octets b =
    to_be_bytes w32 b.ssrc ++ b.fraction ∷ octets_24 (twos_complement b.lost) ++ to_be_bytes w32 b.highest
    ++ to_be_bytes w32 b.jitter ++ to_be_bytes w32 b.lsr ++ to_be_bytes w32 b.dlsr

-- the least number of packets lost that 24 bits can spell (RFC 3550 section 6.4.1): negsuc n is -(n + 1)
abbrev pub least_lost : ℤ
least_lost = negsuc 8388607

-- the greatest number of packets lost that 24 bits can spell
abbrev pub most_lost : ℤ
most_lost = pos 8388607

-- a signed number that 24 bits can spell
pub record FitsLost (lost : ℤ) : Type 0 where
  pub low : least_lost ≤ℤ lost
  pub high : lost ≤ℤ most_lost

-- a block whose numbers fit their fields, the loss apart
pub record FitsBlock (b : ReportBlock) : Type 0 where
  pub ssrc : b.ssrc < 2 ^ 32
  pub fraction : b.fraction < 2 ^ 8
  pub highest : b.highest < 2 ^ 32
  pub jitter : b.jitter < 2 ^ 32
  pub lsr : b.lsr < 2 ^ 32
  pub dlsr : b.dlsr < 2 ^ 32
