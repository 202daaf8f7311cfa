-- What is noted of a datagram that was received (own).
use Rattle.std.specs.Prelude.{◌≡◌, ℕ, List}
use Rattle.rtcp_codec.specs.Compound.{IsCompound}
use Rattle.rtcp_codec.specs.View.{packets_of}
use Rattle.ingress.specs.declared.outcome.Outcome.TheVariants.{Rtcp}
use Rattle.ingress.specs.declared.received.Received.{Received}
use Rattle.bridge_stats.specs.declared.taken.TakenIn.{TakenIn}

-- what is counted of it
abbrev pub taken_of : {A : Type 0} → Received A → TakenIn
taken_of r =
    record {
      from = r.from;
      moment = r.moment;
      octets = r.octets;
      header = r.header;
      outcome = r.outcome;
      sound = r.sound;
    }

-- If it is a compound from a member, its octets are the compound of its packets.
abbrev pub HasReports : {A : Type 0} → List ℕ → Received A → Type 0
HasReports octets r = (n : ℕ) → r.outcome ≡ Rtcp n → IsCompound (packets_of r.packets.items) octets
