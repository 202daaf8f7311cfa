-- What the parts of a lane answer to an item: its video streams and its mixer.
use Rattle.std.specs.Prelude.{◌≡◌, ℕ, List, [], ◌∷◌, ◌++◌, map, None}
use Rattle.media_items.specs.declared.stamp.Stamp.{Stamp}
use Rattle.media_items.specs.declared.lane_place.LanePlace.{LanePlace}
use Rattle.media_items.specs.Inputs.{Input}
use Rattle.mixer.specs.Hearing.{Given}
use Rattle.mixer.specs.Mixes.{MixSent, sent_by, lanes_own}
use Rattle.mixer.specs.Mixers.{MixerOf, WasGiven}
use Rattle.bridge_core.specs.declared.visit.LaneVisit.{LaneVisit}
use Rattle.bridge_core.specs.declared.parts.LaneParts.{LaneParts}
use Rattle.bridge_core.specs.Sent.{Sent}
use Rattle.bridge_core.specs.Sent.Sent.{media}
use Rattle.bridge_core.specs.Lanes.{Visit, given_of, sends_at}
use Rattle.bridge_core.specs.LaneState.{AreLeft}
use Rattle.bridge_core.specs.inner.Visits.{visit_on, asker_of}

-- a packet of a mix as it goes to its member for the first time
abbrev pub mix_to : Stamp → MixSent → Sent
mix_to stamp p =
    media record {
      version = stamp.version;
      item = stamp.item;
      to = p.to;
      ssrc = p.ssrc;
      number = p.packet.number;
      bytes = p.packet.bytes;
      resent_by = None;
    }

-- Whatever the old mixer was given, this is what the lane sends at one more tick, which the new one was given too.
abbrev pub TicksAs : {A : Type 0} → LaneVisit A → MixerOf → MixerOf → ℕ → List Sent → Type 0
TicksAs at old new moment sent =
    (before : List Given) → WasGiven at.place.lane at.place.lanes old before →
    (sent ≡ map (mix_to at.stamp) (lanes_own at.place.lane at.place.lanes (sent_by before at.rows.now moment)))
    × WasGiven at.place.lane at.place.lanes new (before ++ Given.tick at.rows.now moment ∷ [])

-- These items have left the parts of a lane.
abbrev pub LeftBy : {A : Type 0} → LanePlace → LaneParts A → List Visit → Type 0
LeftBy place parts before =
    AreLeft place.lane place.lanes parts.video before × WasGiven place.lane place.lanes parts.audio (given_of before)

-- Whatever items have left the old parts, this is what the lane sends for one more, which leaves the new ones.
abbrev pub PartsAnswer : {A : Type 0} → LaneVisit A → LaneParts A → LaneParts A → Input → List Sent → Type 0
PartsAnswer at old new input sent =
    (before : List Visit) → LeftBy at.place old before →
    (sent ≡ sends_at (asker_of at) at.place.lane at.place.lanes before (visit_on at input))
    × LeftBy at.place new (before ++ visit_on at input ∷ [])
