-- What a front counts of a datagram that it takes in (own).
use Rattle.std.specs.Prelude.{◌≡◌, nat_eq, Bool, length, IfSome, IfNone}
use Rattle.std.specs.Bool.{MatchBool}
use Rattle.rtp_codec.specs.declared.writing.Header.{Header}
use Rattle.ingress.specs.declared.outcome.Outcome.{Outcome}
use Rattle.bridge_stats.specs.declared.others.Limited.{Limited}
use Rattle.bridge_stats.specs.declared.taken.TakenIn.{TakenIn}
use Rattle.ingress.specs.Energy.{sound_in}
use Rattle.ingress.specs.Readings.{Reading, IsReading}
use Rattle.ingress.specs.Received.{HasHeader}
use Rattle.bridge_stats.specs.Stats.{StatsOf, HasNoted}
use Rattle.bridge_stats.specs.Paths.{AreReported}
use Rattle.media_front.specs.Fronts.{Arrival}

-- The note of a datagram: where it came from and when, how many octets it has, and its outcome. It has the header of an
-- RTP packet, and none if the datagram is no such packet. Of its sound it has the samples and the energy, if it was
-- accepted as a packet of a source of sound, and else nothing.
pub record IsNoteOf (arrival : Arrival) (outcome : Outcome) (taken : TakenIn) : Type 0 where
  pub found : IfSome taken.header (HasHeader arrival.octets)
  pub none : IfNone taken.header ((h : Header) → HasHeader arrival.octets h → ⊥)
  pub rest : taken
      ≡ record {
        from = arrival.from;
        moment = arrival.moment;
        octets = length arrival.octets;
        header = taken.header;
        outcome = outcome;
        sound = taken.sound;
      }
  pub heard : (r : Reading) → IsReading arrival.octets r → taken.sound ≡ sound_in arrival.desk arrival.from outcome r

-- the rate limiter left out no report block, by what it had left out before and afterwards
abbrev pub all_pass : (before after : Limited) → Bool
all_pass before after = nat_eq after.blocks before.blocks

-- A datagram that was taken in was counted once, with its outcome. If it is a compound from a member, of which the rate
-- limiter let each block pass, it was noted what the blocks report of streams that the desk sends to that member.
pub record IsCounted (passed : Bool) (arrival : Arrival) (outcome : Outcome) (old new : StatsOf) : Type 0 where
  pub taken : TakenIn
  pub is : IsNoteOf arrival outcome taken
  pub noted : HasNoted taken old new
  pub reports : MatchBool passed
      (AreReported arrival.desk taken.outcome taken.from taken.moment arrival.octets old.reports new.reports)
      (new.reports ≡ old.reports)
