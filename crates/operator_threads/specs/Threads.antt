-- How many connections have a thread (own).
use Rattle.std.specs.Prelude.{ℕ, ◌+◌, Bool, true, false}

-- how many have one, and how many may
pub record ThreadsOf : Type 0 where
  pub running : ℕ
  pub most : ℕ

-- with one more, if it begins
abbrev pub after_begin : Bool → ThreadsOf → ThreadsOf
after_begin true t = record t { running = t.running + 1 }
after_begin false t = t
