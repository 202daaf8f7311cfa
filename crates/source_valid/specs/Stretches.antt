-- A source past probation, since it was last initialised (RFC 3550 A.1; the extended number of a packet behind is own).
use Rattle.std.specs.Prelude.{ℕ, ◌+◌, ◌-◌, ◌^◌, ◌%◌, Bool, false, if◌then◌else◌, nat_eq, nat_lt, nat_le, min, max, List}
use Rattle.std.specs.Prelude.{[], ◌∷◌, ◌++◌, Option, None, Some, fold, length, ℤ, pos, negsuc, ◌-ℤ◌}
use Rattle.source_valid.specs.declared.verdict.Verdict.{Verdict}
use Rattle.source_valid.specs.declared.verdict.Verdict.TheVariants.{Probation, Accepted, Jump, Restarted}

-- a number this far ahead is no dropout (RFC 3550 A.1, MAX_DROPOUT)
abbrev pub max_dropout : ℕ
max_dropout = 3000

-- a number this far behind is not out of order (RFC 3550 A.1, MAX_MISORDER)
abbrev pub max_misorder : ℕ
max_misorder = 100

-- extended numbers stay below this one (own: so that they fit 64 bits)
abbrev pub ext_limit : ℕ
ext_limit = 2 ^ 62 + 2 ^ 16

-- the number that it was initialised at; the extended numbers of the packets accepted since, that one's first;
-- the last Jump since; and those of the accepted packets that came before the last block
pub record Stretch : Type 0 where
  pub base : ℕ
  pub accepted : List ℤ
  pub jump : Option ℕ
  pub told : List ℤ

-- initialised at this number
abbrev pub begun : ℕ → Stretch
begun n = record { base = n; accepted = pos n ∷ []; jump = None; told = [] }

-- the greater one; a number below 0 is greater than no natural one
abbrev pub further : ℕ → ℤ → ℕ
further g (pos n) = max g n
further g (negsuc n) = g

-- the greatest of these extended numbers, at least the base
abbrev pub greatest : ℕ → List ℤ → ℕ
greatest base exts = fold further base exts

-- the greatest extended number that was accepted
abbrev pub greatest_of : Stretch → ℕ
greatest_of s = greatest s.base s.accepted

-- the number after this one
abbrev pub following : ℕ → ℕ
following n = (n + 1) % 2 ^ 16

-- the steps forward from an extended number to the next packet of this number
abbrev pub distance : ℕ → ℕ → ℕ
distance g n = (n + (2 ^ 16 - g % 2 ^ 16)) % 2 ^ 16

-- the last Jump, if any, had the number one less
abbrev pub follows_jump : Option ℕ → ℕ → Bool
follows_jump None n = false
follows_jump (Some j) n = nat_eq n (following j)

-- the verdict on number n at distance u from the greatest extended number g
abbrev pub judged : ℕ → Option ℕ → ℕ → ℕ → Verdict
judged g jump n u =
    if nat_lt u max_dropout then (if nat_le ext_limit (g + u) then Restarted (pos n) else Accepted (pos (g + u)))
    else if nat_lt (2 ^ 16 - max_misorder) u then Accepted (pos g -ℤ pos (2 ^ 16 - u))
    else if follows_jump jump n then Restarted (pos n)
    else Jump

-- the verdict on one more number
abbrev pub verdict_in : Stretch → ℕ → Verdict
verdict_in s n = judged (greatest_of s) s.jump n (distance (greatest_of s) n)

-- the stretch after a packet of this number got this verdict
abbrev pub given : Verdict → ℕ → Stretch → Stretch
given Probation n s = s
given (Accepted e) n s = record { base = s.base; accepted = s.accepted ++ e ∷ []; jump = s.jump; told = s.told }
given Jump n s = record { base = s.base; accepted = s.accepted; jump = Some n; told = s.told }
given (Restarted e) n s = begun n

-- An interval ends with a block.
abbrev pub told_in : Stretch → Stretch
told_in s = record { base = s.base; accepted = s.accepted; jump = s.jump; told = s.accepted }

-- the packets that were expected, when these were accepted (RFC 3550 A.3)
abbrev pub expected_of : ℕ → List ℤ → ℕ
expected_of base [] = 0
expected_of base (e ∷ es) = greatest base (e ∷ es) + 1 - base

-- the packets that were received, as far as they are counted
abbrev pub received_of : List ℤ → ℕ
received_of exts = min (length exts) (2 ^ 64 - 1)
