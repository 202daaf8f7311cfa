-- What is answered, part by part.
use Rattle.std.proofs.Common.{◌≡◌, ℕ, ◌||◌, List, ◌∙◌, ap}
use Rattle.rtp_codec.specs.declared.address.Address.{Address}
use Rattle.source_valid.specs.declared.verdict.Verdict.{Verdict}
use Rattle.source_valid.specs.Histories.{restarts}
use Rattle.frame_gate.specs.Answer.{Answer}
use Rattle.ingress.specs.declared.outcome.Outcome.{Outcome}
use Rattle.media_items.specs.Inputs.{Input}
use Rattle.ingress.specs.Ingested.{Ingested}
use Rattle.ingress.specs.Media.{MediaPacket, origin_of, frames_from}
use Rattle.ingress.specs.Taking.{Voice, asked_of}
use Rattle.ingress.specs.inner.Moves.{outcome_at, given}

abbrev pub ingested : Outcome → List (Address × List ℕ) → List Input → Ingested
ingested outcome up items = record { outcome = outcome; up = up; items = items }

pub given_is : (voice : Voice) (c : MediaPacket) (epoch : ℕ) (verdict : Verdict) (answer : Answer) (outcome : Outcome)
    (up : List (Address × List ℕ)) (items : List Input)
    → outcome ≡ outcome_at verdict answer.place
    → up ≡ asked_of voice (origin_of c) answer.nacks (restarts verdict || answer.pli)
    → items ≡ frames_from (origin_of c) c.moment epoch answer.frames
    → ◌≡◌ {A = Ingested} (record { outcome = outcome; up = up; items = items }) (given voice c epoch verdict answer)
given_is voice c epoch verdict answer outcome up items o u i =
    ap (λ x. ingested x up items) o ∙ ap (λ x. ingested (outcome_at verdict answer.place) x items) u
    ∙ ap
    (λ x.
    ingested (outcome_at verdict answer.place)
    (asked_of voice (origin_of c) answer.nacks (restarts verdict || answer.pli)) x)
    i
