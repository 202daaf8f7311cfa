-- What a source was given, and how far it has come by that (RFC 3550 A.1).
use Rattle.std.specs.Prelude.{ℕ, Bool, true, false, if◌then◌else◌, nat_eq, List, Option, None, Some, fold, ℤ, pos}
use Rattle.source_valid.specs.declared.verdict.Verdict.{Verdict}
use Rattle.source_valid.specs.declared.verdict.Verdict.TheVariants.{Probation, Accepted, Jump, Restarted}
use Rattle.source_valid.specs.declared.timing.Timing.{Timing}
use Rattle.source_valid.specs.declared.heard.Heard.{Heard}
use Rattle.source_valid.specs.Stretches.{Stretch, begun, following, verdict_in, given, told_in}
use Rattle.source_valid.specs.Timings.{untimed, timed}

-- a packet's number, an accepted packet's arrival, a sender report, a block that was told
pub data Step : Type 0 where
  Number : (n : ℕ) → Step
  Arrival : (ts units : ℕ) → Step
  Sender : (heard : Heard) → Step
  Block : Step

-- given no number yet; on probation, by the last number; past probation
pub data Standing : Type 0 where
  Unheard : Standing
  Waiting : (last : ℕ) → Standing
  Valid : (stretch : Stretch) → Standing

-- Probation ends at a number that is one more than the number before it.
abbrev pub verdict_of : Standing → ℕ → Verdict
verdict_of Unheard n = Probation
verdict_of (Waiting last) n = if nat_eq n (following last) then Accepted (pos n) else Probation
verdict_of (Valid s) n = verdict_in s n

-- the extended number of a packet that counts
abbrev pub accepted : Verdict → Option ℤ
accepted Probation = None
accepted (Accepted ext) = Some ext
accepted Jump = None
accepted (Restarted ext) = Some ext

-- the packet initialises its source anew
abbrev pub restarts : Verdict → Bool
restarts Probation = false
restarts (Accepted ext) = false
restarts Jump = false
restarts (Restarted ext) = true

-- how far a source has come by one more number
abbrev pub after_number : Standing → ℕ → Standing
after_number Unheard n = Waiting n
after_number (Waiting last) n = if nat_eq n (following last) then Valid (begun n) else Waiting n
after_number (Valid s) n = Valid (given (verdict_in s n) n s)

-- how far it has come by a block: an interval ends
abbrev pub after_block : Standing → Standing
after_block Unheard = Unheard
after_block (Waiting last) = Waiting last
after_block (Valid s) = Valid (told_in s)

-- how far it has come by one more step; arrivals and sender reports change nothing of it
abbrev pub standing_after : Standing → Step → Standing
standing_after st (Number n) = after_number st n
standing_after st (Arrival ts units) = st
standing_after st (Sender heard) = st
standing_after st Block = after_block st

-- how far it has come by all its steps
abbrev pub standing_of : List Step → Standing
standing_of steps = fold standing_after Unheard steps

-- It is past probation.
abbrev pub past_probation_in : Standing → Bool
past_probation_in Unheard = false
past_probation_in (Waiting last) = false
past_probation_in (Valid s) = true

-- what is known of its timing after one more step: each arrival tells of it
abbrev pub timing_after : Timing → Step → Timing
timing_after t (Number n) = t
timing_after t (Arrival ts units) = timed t ts units
timing_after t (Sender heard) = t
timing_after t Block = t

-- what is known of its timing
abbrev pub timing_of : List Step → Timing
timing_of steps = fold timing_after untimed steps

-- the last sender report after one more step
abbrev pub heard_after : Option Heard → Step → Option Heard
heard_after h (Number n) = h
heard_after h (Arrival ts units) = h
heard_after h (Sender heard) = Some heard
heard_after h Block = h

-- the last sender report
abbrev pub heard_of : List Step → Option Heard
heard_of steps = fold heard_after None steps
