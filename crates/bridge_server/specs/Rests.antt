-- How long a front rests before it waits for its sockets (own).
use Rattle.std.specs.Prelude.{ℕ}

-- the longest rest, in nanoseconds: 1 ms
abbrev pub most_rest : ℕ
most_rest = 1000000
