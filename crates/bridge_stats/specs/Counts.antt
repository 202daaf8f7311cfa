-- How many datagrams had an outcome (own).
use Rattle.std.specs.Prelude.{ℕ, ◌-◌, ◌^◌, min, nat_eq, Bool, if◌then◌else◌, List, count_by, sum_by}
use Rattle.bridge_stats.specs.declared.taken.TakenIn.{TakenIn}
use Rattle.ingress.specs.declared.outcome_kind.OutcomeKind.{OutcomeKind}
use Rattle.ingress.specs.Outcomes.{outcome_kind}
use Rattle.bridge_stats.specs.Kinds.{line_place}

-- so many, as far as 64 bits count
abbrev pub so_many : ℕ → ℕ
so_many many = min many (2 ^ 64 - 1)

-- the outcome of a datagram is of a kind
abbrev pub has_kind : OutcomeKind → TakenIn → Bool
has_kind kind taken = nat_eq (line_place (outcome_kind taken.outcome)) (line_place kind)

-- how many of these datagrams had an outcome of a kind
abbrev pub datagrams_with : OutcomeKind → List TakenIn → ℕ
datagrams_with kind all = so_many (count_by (has_kind kind) all)

-- how many octets those had
abbrev pub octets_with : OutcomeKind → List TakenIn → ℕ
octets_with kind all = so_many (sum_by (λ taken. if has_kind kind taken then taken.octets else 0) all)
