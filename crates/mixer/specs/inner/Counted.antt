-- What is counted once for all members of a room.
use Rattle.std.specs.Prelude.{◌≡◌, ℕ, ◌+◌, ◌≤◌, List, length, take, slice_index_or}
use Rattle.mix_minus.specs.declared.input.Input.{Input}
use Rattle.mix_minus.specs.Mix.{present_in}

-- the member of an input
abbrev pub member_of : Input → ℕ
member_of input = input.member

-- Each number says of how many inputs before its place a sample is present; the last one says it of all.
pub record AreBefore (counts : List ℕ) (inputs : List Input) : Type 0 where
  pub long : length counts ≡ length inputs + 1
  pub count : (k : ℕ) → k ≤ length inputs → slice_index_or counts k 0 ≡ length (present_in (take k inputs))
