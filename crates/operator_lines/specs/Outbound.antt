-- What an operator has not read yet (own).
use Rattle.std.specs.Prelude.{ℕ, Bool, List, length, nat_lt}

-- how many octets an operator may leave unread: more than 1 MiB beyond what the rows of a full desk take
abbrev pub unread_limit : ℕ
unread_limit = 4194304

-- how many octets are written at a time at most
abbrev pub piece : ℕ
piece = 65536

-- more waits than an operator may leave unread
abbrev pub is_too_much : List ℕ → Bool
is_too_much waiting = nat_lt unread_limit (length waiting)
