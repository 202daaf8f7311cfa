-- Outcomes by which compounds are read.
use Rattle.std.proofs.Common.{◌≡◌, ℕ}
use Rattle.ingress.specs.declared.outcome.Outcome.{Outcome}
use Rattle.ingress.specs.declared.outcome.Outcome.TheVariants as outcomes
use Rattle.ingress.specs.declared.outcome_class.Disposition.TheVariants.{Compound}
use Rattle.ingress.specs.Outcomes.{disposition_of}

-- only a member's compound is read
pub compound_is : (o : Outcome) (n : ℕ) → disposition_of o ≡ Compound n → o ≡ outcomes.Rtcp n
compound_is outcomes.TooLong n e = cc
compound_is outcomes.Neither n e = cc
compound_is (outcomes.BadRtp fault) n e = cc
compound_is (outcomes.BadRtcp fault) n e = cc
compound_is outcomes.Unknown n e = cc
compound_is outcomes.BadPayload n e = cc
compound_is outcomes.Spent n e = cc
compound_is outcomes.Probation n e = cc
compound_is (outcomes.Accepted ext) n e = cc
compound_is (outcomes.Late ext) n e = cc
compound_is (outcomes.Duplicate ext) n e = cc
compound_is outcomes.Jump n e = cc
compound_is (outcomes.Restarted ext) n e = cc
compound_is (outcomes.Rtcp packets) n e = cc
