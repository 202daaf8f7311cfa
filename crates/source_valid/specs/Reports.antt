-- The numbers of a report block (RFC 3550 A.3 and section 6.4.1).
use Rattle.std.specs.Prelude.{ℕ, ◌-◌, ◌*◌, ◌/◌, ◌^◌, ◌%◌, if◌then◌else◌, nat_eq, min, Option, None, Some, ℤ, pos, ◌-ℤ◌}
use Rattle.std.specs.Int.{int_max, int_min}
use Rattle.source_valid.specs.declared.heard.Heard.{Heard}
use Rattle.source_valid.specs.declared.timing.Timing.{Timing}
use Rattle.rtcp_codec.specs.declared.report.ReportBlock.{ReportBlock}
use Rattle.rtcp_codec.specs.Report.{least_lost, most_lost}
use Rattle.source_valid.specs.Stretches.{Stretch, greatest_of, expected_of, received_of}

-- the lost part of the expected packets, in 256ths, at most 255; 0 where none was expected, or none lost
abbrev pub fraction_of : ℕ → ℕ → ℕ
fraction_of expected received = if nat_eq expected 0 then 0 else min (256 * (expected - received) / expected) 255

-- the packets lost, within 24 bits; duplicates make it negative
abbrev pub lost_of : ℕ → ℕ → ℤ
lost_of expected received = int_max least_lost (int_min (pos expected -ℤ pos received) most_lost)

-- the middle 32 bits of the last report's NTP time
abbrev pub lsr_of : Option Heard → ℕ
lsr_of None = 0
lsr_of (Some h) = h.ntp / 2 ^ 16 % 2 ^ 32

-- the time since the last report, in units of 1/65536 second
abbrev pub dlsr_of : Option Heard → ℕ → ℕ
dlsr_of None moment = 0
dlsr_of (Some h) moment = min ((moment - h.moment) * 2 ^ 16 / 10 ^ 9) (2 ^ 32 - 1)

-- of the packets since the last block, or the initialisation
abbrev pub fraction_in : Stretch → ℕ
fraction_in s =
    fraction_of (expected_of s.base s.accepted - expected_of s.base s.told)
    (received_of s.accepted - received_of s.told)

-- the block of a source past probation
abbrev pub block_of : Stretch → Timing → Option Heard → (ssrc moment : ℕ) → ReportBlock
block_of s timing heard ssrc moment = record {
  ssrc = ssrc;
  fraction = fraction_in s;
  lost = lost_of (expected_of s.base s.accepted) (received_of s.accepted);
  highest = greatest_of s % 2 ^ 32;
  jitter = timing.jitter / 16;
  lsr = lsr_of heard;
  dlsr = dlsr_of heard moment;
}
