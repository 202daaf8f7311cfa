-- What the bridge says of its desk's lease (own).
use Rattle.std.specs.Prelude.{ℕ, ◌&&◌, if◌then◌else◌, nat_le, List, length, take, drop, codes, Option, Some, None}
use Rattle.std.specs.Str.{bytes_eq}
use Rattle.desk_http.specs.Lines.{is_person}
use Rattle.desk_http.specs.BridgeRequests.{before_last_lf}

-- the line that asks for the lease
abbrev pub lease_line : List ℕ
lease_line = codes "lease"

-- who held the lease that a line tells the end of: `lease 0 NAME`
abbrev pub ended_in : List ℕ → Option (List ℕ)
ended_in line =
    if nat_le 8 (length line) && bytes_eq (take 8 line) (codes "lease 0 ") && is_person (drop 8 line)
    then Some (drop 8 line) else None

-- who held the lease, if the answer says that it has ended
abbrev pub closed_in : Option (List ℕ) → Option (List ℕ)
closed_in None = None
closed_in (Some line) = ended_in line

-- the same by the whole answer
abbrev pub closed_by : List ℕ → Option (List ℕ)
closed_by answer = closed_in (before_last_lf answer)
