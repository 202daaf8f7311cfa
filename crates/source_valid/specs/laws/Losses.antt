-- What blocks tell of lost packets (RFC 3550 A.3 and section 6.4.1).
use Rattle.std.specs.Prelude.{◌≡◌, ℕ, ◌+◌, ◌-◌, ◌*◌, ◌^◌, ◌<◌, ◌≤◌, pos, negsuc}
use Rattle.source_valid.specs.Reports.{fraction_of, lost_of}

-- The fraction is what was lost of the expected packets, in 256ths, rounded down: 0 where none was lost, and 255 where
-- all were. The loss is expected less received where 24 bits can spell it, and else the nearest number that they can;
-- negsuc n is -(n + 1).
pub record Losses : Type 0 where
  pub none : (expected received : ℕ) → expected ≤ received → fraction_of expected received ≡ 0
  pub all : (expected : ℕ) → 0 < expected → fraction_of expected 0 ≡ 255
  pub most : (expected received : ℕ) → fraction_of expected received ≤ 255
  pub not_more : (expected received : ℕ) → fraction_of expected received * expected ≤ 256 * (expected - received)
  pub not_less : (expected received : ℕ) → 0 < expected → fraction_of expected received < 255
      → 256 * (expected - received) < fraction_of expected received * expected + expected
  pub lost : (received n : ℕ) → n < 2 ^ 23 → lost_of (received + n) received ≡ pos n
  pub gained : (expected n : ℕ) → n < 2 ^ 23 → lost_of expected (expected + (n + 1)) ≡ negsuc n
  pub too_many_lost : (received n : ℕ) → 2 ^ 23 ≤ n → lost_of (received + n) received ≡ pos (2 ^ 23 - 1)
  pub too_many_gained : (expected n : ℕ) → 2 ^ 23 ≤ n → lost_of expected (expected + (n + 1)) ≡ negsuc (2 ^ 23 - 1)
