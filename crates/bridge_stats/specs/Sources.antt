-- What is counted of a source (RFC 3550 A.3 for what was expected; the rest own).
use Rattle.std.specs.Prelude.{ℕ, ◌+◌, not, if◌then◌else◌, List, [], ◌∷◌, ◌++◌, length, count_by}
use Rattle.std.specs.Prelude.{sum_by, fold, ℤ, ◌-ℤ◌}
use Rattle.std.specs.Int.{int_max}
use Rattle.std.specs.Int.RustNames.{unsigned_abs}
use Rattle.bridge_stats.specs.declared.taken.TakenIn.{TakenIn}
use Rattle.ingress.specs.declared.outcome_class.Disposition.{Disposition}
use Rattle.ingress.specs.declared.outcome_class.Disposition.TheVariants.{Dropped, Probation, OnTime, Late, Duplicate}
use Rattle.ingress.specs.declared.outcome_class.Disposition.TheVariants.{Restarted, Compound}
use Rattle.ingress.specs.declared.outcome.Outcome.{Outcome}
use Rattle.ingress.specs.Outcomes.{disposition_of, is_accepted, is_late, is_duplicate}
use Rattle.bridge_stats.specs.declared.numbers.SourceNumbers.{SourceNumbers}
use Rattle.bridge_stats.specs.Counts.{so_many}
use Rattle.bridge_stats.specs.Drops.{drops_of}
use Rattle.bridge_stats.specs.Silence.{silent_in}

-- these extended numbers, and then that of a packet with this disposition
abbrev pub numbers_with : List ℤ → Disposition → List ℤ
numbers_with numbers Dropped = numbers
numbers_with numbers Probation = []
numbers_with numbers (OnTime ext) = numbers ++ ext ∷ []
numbers_with numbers (Late ext) = numbers ++ ext ∷ []
numbers_with numbers (Duplicate ext) = numbers ++ ext ∷ []
numbers_with numbers (Restarted ext) = ext ∷ []
numbers_with numbers (Compound packets) = numbers

-- The extended numbers of the accepted packets, from the one at which their source was initialised: after one more
-- datagram. A restart initialises it, and so does the first packet behind one on probation.
abbrev pub numbers_after : List ℤ → Outcome → List ℤ
numbers_after numbers outcome = numbers_with numbers (disposition_of outcome)

-- those of a source of which these datagrams came
abbrev pub numbers_in : List TakenIn → List ℤ
numbers_in all = fold (λ numbers taken. numbers_after numbers taken.outcome) [] all

-- how many were expected (RFC 3550 A.3): the greatest less the first, and one more
abbrev pub expected_of : List ℤ → ℕ
expected_of [] = 0
expected_of (first ∷ numbers) = unsigned_abs (fold int_max first numbers -ℤ first) + 1

-- when the last one came
abbrev pub last_moment : List TakenIn → ℕ
last_moment all = fold (λ before taken. taken.moment) 0 all

-- what is counted of a source of which these datagrams came
abbrev pub numbers_of : List TakenIn → SourceNumbers
numbers_of all = record {
  packets = so_many (count_by (λ taken. is_accepted taken.outcome) all);
  octets = so_many (sum_by (λ taken. if is_accepted taken.outcome then taken.octets else 0) all);
  late = so_many (count_by (λ taken. is_late taken.outcome) all);
  duplicates = so_many (count_by (λ taken. is_duplicate taken.outcome) all);
  dropped = so_many (count_by (λ taken. not (is_accepted taken.outcome)) all);
  expected = so_many (expected_of (numbers_in all));
  received = so_many (length (numbers_in all));
  last = last_moment all;
  samples = so_many (sum_by (λ taken. taken.sound.samples) all);
  energy = so_many (sum_by (λ taken. taken.sound.energy) all);
  silent = silent_in all;
  drops = drops_of all;
}
