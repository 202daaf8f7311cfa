-- Members listed once more by their addresses. No public clause cites it.
use Rattle.std.specs.Prelude.{◌≡◌, ℕ, Bool, List, count_by}
use Rattle.std.specs.declared.cmp.Ordering.{Ordering}
use Rattle.std.specs.Ordering.{nat_cmp, ordering_then}
use Rattle.std.specs.Cmp.Lexicographic.{slice_cmp}
use Rattle.std.specs.List.Sorted.{IsSortedByKey}
use Rattle.desk_rows.specs.declared.row.Member.{Member}

-- a member's address: the octets of its IP address, and its port
abbrev pub ip_and_port : Member → List ℕ × ℕ
ip_and_port m = (m.address.ip, m.address.port)

-- the order of addresses: the first octets that differ decide, and then the ports
abbrev pub address_cmp : List ℕ × ℕ → List ℕ × ℕ → Ordering
address_cmp a b = ordering_then (slice_cmp nat_cmp a.0 b.0) (nat_cmp a.1 b.1)

-- members stand by address
abbrev pub StandByAddress : List Member → Type 0
StandByAddress = IsSortedByKey ip_and_port address_cmp

-- a table of these members: by address, and each test is passed by as many
pub record IsByAddress (members table : List Member) : Type 0 where
  pub order : StandByAddress table
  pub same : (p : Member → Bool) → count_by p table ≡ count_by p members
