-- Squares of samples.
use Rattle.std.proofs.Common.{ℕ, ◌*◌, ◌^◌, ◌≤◌, mul-le-mul}

-- the square of a sample's size is small
pub small_square : (size : ℕ) → size ≤ 32768 → size * size ≤ 2 ^ 30
small_square size few = mul-le-mul few few
