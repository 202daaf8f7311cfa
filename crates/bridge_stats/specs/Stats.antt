-- What a bridge counts (own).
use Rattle.std.specs.Prelude.{◌≡◌, ℕ, ◌-◌, ◌/◌, List, [], ◌∷◌, ◌++◌, map, Option, None, Some}
use Rattle.rtp_codec.specs.declared.writing.Header.{Header}
use Rattle.bridge_stats.specs.declared.taken.TakenIn.{TakenIn}
use Rattle.bridge_stats.specs.declared.sender.Sender.{Sender}
use Rattle.ingress.specs.declared.outcome_class.Whose.{Whose}
use Rattle.ingress.specs.declared.outcome_class.Whose.TheVariants.{Nobody, Stranger, Source, Member}
use Rattle.bridge_stats.specs.declared.stranger.StrangerNumbers.{StrangerNumbers}
use Rattle.bridge_stats.specs.declared.path.PathReport.{PathReport}
use Rattle.bridge_stats.specs.Senders.{sender_of}
use Rattle.ingress.specs.Outcomes.{whose}
use Rattle.bridge_stats.specs.Tables.{TableOf, IsSourceNoted, IsMet}

-- all that was taken in, oldest first; the datagrams of each source that is kept; senders that are no source; and what
-- receivers reported last of the way of each stream that is kept
pub record StatsOf : Type 0 where
  pub taken : List TakenIn
  pub sources : TableOf (List TakenIn)
  pub strangers : TableOf StrangerNumbers
  pub reports : TableOf PathReport

-- nothing was taken in
abbrev pub no_stats : StatsOf
no_stats = record {
  taken = [];
  sources = record { entries = []; left_out = 0 };
  strangers = record { entries = []; left_out = 0 };
  reports = record { entries = []; left_out = 0 };
}

-- A packet is noted apart, if it is of a source, or of a sender that is no source.
abbrev pub IsNotedApart : Whose → Sender → (pt : ℕ) → TakenIn → StatsOf → StatsOf → Type 0
IsNotedApart Nobody sender pt taken old new = (new.sources ≡ old.sources) × (new.strangers ≡ old.strangers)
IsNotedApart Source sender pt taken old new =
    IsSourceNoted sender taken old.sources new.sources × (new.strangers ≡ old.strangers)
IsNotedApart Stranger sender pt taken old new =
    (new.sources ≡ old.sources) × IsMet sender pt old.strangers new.strangers
IsNotedApart Member sender pt taken old new = (new.sources ≡ old.sources) × (new.strangers ≡ old.strangers)

-- what has no RTP header is nobody's
abbrev pub IsNotedBy : Option Header → TakenIn → StatsOf → StatsOf → Type 0
IsNotedBy None taken old new = (new.sources ≡ old.sources) × (new.strangers ≡ old.strangers)
IsNotedBy (Some header) taken old new =
    IsNotedApart (whose taken.outcome) (sender_of taken.from header) header.pt taken old new

-- One more datagram was taken in.
pub record HasNoted (taken : TakenIn) (old new : StatsOf) : Type 0 where
  pub all : new.taken ≡ old.taken ++ taken ∷ []
  pub apart : IsNotedBy taken.header taken old new
