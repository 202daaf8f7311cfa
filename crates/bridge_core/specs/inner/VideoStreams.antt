-- What a lane's video streams answer to an item.
use Rattle.std.specs.Prelude.{◌≡◌, List, [], ◌∷◌, ◌++◌}
use Rattle.media_items.specs.Inputs.{Input}
use Rattle.bridge_core.specs.declared.visit.LaneVisit.{LaneVisit}
use Rattle.bridge_core.specs.Sent.{Sent}
use Rattle.bridge_core.specs.Lanes.{Visit, sends_at}
use Rattle.bridge_core.specs.LaneState.{StreamList, AreLeft}
use Rattle.bridge_core.specs.inner.Visits.{visit_on, asker_of}

-- Whatever items have left the old streams, this is what the lane sends for one more, which leaves the new ones.
abbrev pub Answers : {A : Type 0} → LaneVisit A → StreamList → StreamList → Input → List Sent → Type 0
Answers at old new input sent =
    (before : List Visit) → AreLeft at.place.lane at.place.lanes old before
    → (sent ≡ sends_at (asker_of at) at.place.lane at.place.lanes before (visit_on at input))
    × AreLeft at.place.lane at.place.lanes new (before ++ visit_on at input ∷ [])
