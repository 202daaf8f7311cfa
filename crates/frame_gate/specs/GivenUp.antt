-- Missing numbers, and what becomes of one that a gate no longer waits for (own).
use Rattle.std.specs.Prelude.{◌≡◌, ℕ, ◌+◌, ◌-◌, ◌<◌, Bool, true, not, ◌&&◌, if◌then◌else◌, nat_le, nat_lt, is_some}
use Rattle.std.specs.Prelude.{List, ◌++◌, filter}
use Rattle.std.specs.List.{range_with_len}
use Rattle.frame_gate.specs.Frame.{WholeFrame}
use Rattle.frame_gate.specs.Epochs.{Epoch, packet_at, greatest, next_of, frames_of, gate_size, resynced}

-- The number is not decided and was not taken, and a greater one was taken.
abbrev pub is_missing : Epoch → ℕ → Bool
is_missing e n = nat_le (next_of e) n && (nat_lt n (greatest e.taken) && not (is_some (packet_at e.taken n)))

-- the missing numbers, rising
abbrev pub missing_in : Epoch → List ℕ
missing_in e =
    filter (λ n. not (is_some (packet_at e.taken n))) (range_with_len (next_of e) (greatest e.taken - next_of e))

-- A missing number is given up: the cuts are placed that a packet numbered 256 further on would place, and no packet is
-- taken.
abbrev pub given_up : Epoch → ℕ → Epoch
given_up e n = if is_missing e n then resynced (n + gate_size) e (n + gate_size) else e

-- the frames that were closed, and whether a number was given up, so that a new picture is needed
pub record GaveUp : Type 0 where
  pub frames : List WholeFrame
  pub pli : Bool

-- This is the answer where this number is given up. Afterwards it is decided.
pub record AnswersGivingUp (e : Epoch) (n : ℕ) (a : GaveUp) : Type 0 where
  pub frames : frames_of (given_up e n) ≡ frames_of e ++ a.frames
  pub pli : a.pli ≡ is_missing e n
  pub decided : a.pli ≡ true → n < next_of (given_up e n)
