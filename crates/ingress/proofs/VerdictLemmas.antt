-- What the verdict on a packet leads to.
use Rattle.std.proofs.Common.{◌≡◌, ◌||◌, ◌&&◌, ◌++◌, ◌∷◌, [], List, Bool, true, false, not, refl}
use Rattle.std.specs.Prelude.{is_some}
use Rattle.source_valid.specs.declared.verdict.Verdict.{Verdict}
use Rattle.source_valid.specs.declared.verdict.Verdict.TheVariants.{Probation, Accepted, Jump, Restarted}
use Rattle.source_valid.specs.Histories.{Step, Arrival, Standing, accepted, restarts, past_probation_in}
use Rattle.frame_gate.specs.declared.packet.Place.TheVariants.{Taken}
use Rattle.ingress.specs.Media.{told}
use Rattle.ingress.specs.Stories.{RtpArrival, initialises, arrival}
use Rattle.ingress.specs.inner.Moves.{outcome_at}

pub told_at_no_gate : (verdict : Verdict) → outcome_at verdict Taken ≡ told verdict
told_at_no_gate Probation = refl
told_at_no_gate (Accepted ext) = refl
told_at_no_gate Jump = refl
told_at_no_gate (Restarted ext) = refl

pub initialises_if : (standing : Standing) (verdict : Verdict)
    → (restarts verdict || (is_some (accepted verdict) && not (past_probation_in standing)))
    ≡ initialises standing verdict
initialises_if standing Probation = refl
initialises_if standing (Accepted ext) = refl
initialises_if standing Jump = refl
initialises_if standing (Restarted ext) = refl

pub arrives : (verdict : Verdict) (arriving : RtpArrival) → is_some (accepted verdict) ≡ true
    → arrival verdict arriving ≡ Arrival arriving.ts arriving.units ∷ []
arrives (Accepted ext) arriving is = refl
arrives (Restarted ext) arriving is = refl
arrives Probation arriving is = absurd (cc (is))
arrives Jump arriving is = absurd (cc (is))

pub stays_away : (verdict : Verdict) (arriving : RtpArrival) → is_some (accepted verdict) ≡ false
    → arrival verdict arriving ≡ []
stays_away Probation arriving is = refl
stays_away Jump arriving is = refl
stays_away (Accepted ext) arriving is = absurd (cc (is))
stays_away (Restarted ext) arriving is = absurd (cc (is))
