-- How far extended numbers reach (own).
use Rattle.std.specs.Prelude.{◌^◌, ℤ, pos, neg_ℤ, ◌+ℤ◌, ◌≤ℤ◌, ◌<ℤ◌}
use Rattle.source_valid.specs.declared.verdict.Verdict.{Verdict}
use Rattle.source_valid.specs.declared.verdict.Verdict.TheVariants.{Probation, Accepted, Jump, Restarted}

-- An extended number is at most one wrap below 0, and below 2^62 by less than one wrap over.
abbrev pub IsExt : ℤ → Type 0
IsExt ext = (neg_ℤ (pos 65536) ≤ℤ ext) × (ext <ℤ (pos (2 ^ 62) +ℤ pos 65536))

-- The verdict's extended number, if it has one, is in range.
abbrev pub IsInRange : Verdict → Type 0
IsInRange Probation = Unit {0}
IsInRange (Accepted ext) = IsExt ext
IsInRange Jump = Unit {0}
IsInRange (Restarted ext) = IsExt ext
