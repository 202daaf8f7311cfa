-- What is counted of a list of datagrams (own).
use Rattle.std.specs.Prelude.{◌≡◌, Bool, true, false, ◌&&◌, List, [], ◌∷◌, Option, None, Some}
use Rattle.rtp_codec.specs.declared.writing.Header.{Header}
use Rattle.bridge_stats.specs.declared.taken.TakenIn.{TakenIn}
use Rattle.bridge_stats.specs.declared.sender.Sender.{Sender}
use Rattle.ingress.specs.declared.outcome_class.Whose.{Whose}
use Rattle.ingress.specs.declared.outcome_class.Whose.TheVariants.{Nobody, Stranger, Source, Member}
use Rattle.bridge_stats.specs.Senders.{same_sender, sender_of}
use Rattle.ingress.specs.Outcomes.{whose}
use Rattle.bridge_stats.specs.Stats.{StatsOf, HasNoted}

-- These datagrams were noted one after another.
abbrev pub AreAllNoted : List TakenIn → StatsOf → StatsOf → Type 0
AreAllNoted [] old new = new ≡ old
AreAllNoted (taken ∷ all) old new = (between : StatsOf) × HasNoted taken old between × AreAllNoted all between new

-- whether datagrams are of a source
abbrev pub is_source : Whose → Bool
is_source Nobody = false
is_source Source = true
is_source Stranger = false
is_source Member = false

-- whether a datagram with this header is of a source
abbrev pub is_sent_by : Sender → Option Header → TakenIn → Bool
is_sent_by sender None taken = false
is_sent_by sender (Some header) taken =
    is_source (whose taken.outcome) && same_sender sender (sender_of taken.from header)

-- whether a datagram is of a source
abbrev pub is_of : Sender → TakenIn → Bool
is_of sender taken = is_sent_by sender taken.header taken
