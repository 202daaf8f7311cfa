-- How the counters of the code stand to a stretch.
use Rattle.std.specs.Prelude.{◌≡◌, ℕ, ◌+◌, ◌<◌, ◌≤◌, ◌^◌, ◌%◌, Option, None, Some, length}
use Rattle.source_valid.specs.declared.verdict.Verdict.{Verdict}
use Rattle.source_valid.specs.declared.counters.Counters.{Counters}
use Rattle.source_valid.specs.Stretches.{Stretch, greatest_of, following, expected_of, received_of, verdict_in, given}

-- the number after a Jump
abbrev pub after_jump : Option ℕ → Option ℕ
after_jump None = None
after_jump (Some j) = Some (following j)

-- What the counters are by themselves: no sum of them passes 64 bits, and no difference falls below 0.
pub record Sound (c : Counters) : Type 0 where
  pub max : c.max_seq < 2 ^ 16
  pub cycles : c.cycles ≤ 2 ^ 62
  pub whole : c.cycles % 2 ^ 16 ≡ 0
  pub base : c.base_seq ≤ c.cycles + c.max_seq
  pub expected : c.expected_prior + c.base_seq ≤ c.cycles + c.max_seq + 1
  pub received : c.received_prior ≤ c.received

-- These are the counters of the stretch.
pub record Stands (s : Stretch) (c : Counters) : Type 0 where
  pub some : 0 < length s.accepted
  pub base : c.base_seq ≡ s.base
  pub greatest : c.cycles + c.max_seq ≡ greatest_of s
  pub jump : c.bad_seq ≡ after_jump s.jump
  pub received : c.received ≡ received_of s.accepted
  pub expected_prior : c.expected_prior ≡ expected_of s.base s.told
  pub received_prior : c.received_prior ≡ received_of s.told

-- This is the verdict on one more packet of the stretch, and the counters are those after it.
pub record Answers (s : Stretch) (n : ℕ) (v : Verdict) (c : Counters) : Type 0 where
  pub verdict : v ≡ verdict_in s n
  pub stands : Stands (given v n s) c
