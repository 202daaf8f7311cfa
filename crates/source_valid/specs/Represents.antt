-- What a source answers.
use Rattle.std.specs.Prelude.{◌≡◌, ℕ, List, [], ◌∷◌, ◌++◌, Option}
use Rattle.source_valid.specs.declared.verdict.Verdict.{Verdict}
use Rattle.source_valid.specs.Histories.{Step, Number, Standing, Unheard, Waiting, Valid, standing_of, timing_of}
use Rattle.source_valid.specs.Histories.{heard_of, verdict_of}
use Rattle.source_valid.specs.declared.timing.Timing.{Timing}
use Rattle.source_valid.specs.declared.heard.Heard.{Heard}
use Rattle.rtcp_codec.specs.declared.report.ReportBlock.{ReportBlock}
use Rattle.source_valid.specs.Reports.{block_of}
use Rattle.source_valid.specs.inner.Phases.{InPhase}
use Rattle.source_valid.specs.inner.Kept.{Kept}

-- The source was given all of this.
pub record Represents (k : Kept) (steps : List Step) : Type 0 where
  pub phase : InPhase (standing_of steps) k.phase
  pub timing : k.timing ≡ timing_of steps
  pub heard : k.heard ≡ heard_of steps

-- Whatever the old source was given, this is the verdict on one more number, and the new source was given it too.
abbrev pub Judges : Kept → Kept → ℕ → Verdict → Type 0
Judges old new n v =
    (before : List Step) → Represents old before
    → (v ≡ verdict_of (standing_of before) n) × Represents new (before ++ Number n ∷ [])

-- Whatever the old source was given, the new one was given this step too.
abbrev pub Adds : Kept → Kept → Step → Type 0
Adds old new step = (before : List Step) → Represents old before → Represents new (before ++ step ∷ [])

-- Only a source past probation has a block, and this is it.
abbrev pub IsBlockOf : Standing → Timing → Option Heard → (ssrc moment : ℕ) → ReportBlock → Type 0
IsBlockOf Unheard timing heard ssrc moment b = ⊥
IsBlockOf (Waiting last) timing heard ssrc moment b = ⊥
IsBlockOf (Valid s) timing heard ssrc moment b = b ≡ block_of s timing heard ssrc moment

-- Whatever the source was given, this is its block at the moment.
abbrev pub Tells : Kept → (ssrc moment : ℕ) → ReportBlock → Type 0
Tells k ssrc moment b =
    (before : List Step) → Represents k before
    → IsBlockOf (standing_of before) (timing_of before) (heard_of before) ssrc moment b
