-- What was done on an operator's connection, as the system answered it (own).
use Rattle.std.specs.Prelude.{ℕ, Bool, List, [], take}
use Rattle.std.specs.List.{flat_map}
use Rattle.operator_connection.specs.declared.talking.Came.{Came}
use Rattle.operator_connection.specs.declared.talking.Came.TheVariants as came

-- One thing that was done: the socket was waited for, so many milliseconds at most, and anything was reported or not;
-- the clock told a moment, in nanoseconds; a read gave this, and these octets; or a write of these octets gave this.
pub data Act : Type 0 where
  waited : (longest : ℕ) → (any : Bool) → Act
  looked : (moment : ℕ) → Act
  read : Came → List ℕ → Act
  wrote : Came → List ℕ → Act

-- how many octets came or were taken
abbrev pub octet_count : Came → ℕ
octet_count (came.Octets n) = n
octet_count came.End = 0
octet_count came.Later = 0
octet_count came.Again = 0
octet_count came.Failed = 0

-- the octets that a read gave
abbrev pub read_by : Act → List ℕ
read_by (waited longest any) = []
read_by (looked moment) = []
read_by (read came octets) = octets
read_by (wrote came octets) = []

-- the octets that a write took
abbrev pub written_by : Act → List ℕ
written_by (waited longest any) = []
written_by (looked moment) = []
written_by (read came octets) = []
written_by (wrote came octets) = take (octet_count came) octets

-- all that was read, oldest first
abbrev pub all_read : List Act → List ℕ
all_read acts = flat_map read_by acts

-- all that was written, oldest first
abbrev pub all_written : List Act → List ℕ
all_written acts = flat_map written_by acts
