-- What a lane handles an item by, in the words of the definitions.
use Rattle.media_items.specs.Inputs.{Input}
use Rattle.sender_feedback.specs.Upstream.{Asker}
use Rattle.bridge_core.specs.declared.visit.LaneVisit.{LaneVisit}
use Rattle.bridge_core.specs.Lanes.{Visit}
use Rattle.bridge_core.specs.LaneState.{visit_of}

-- the visit of this input
abbrev pub visit_on : {A : Type 0} → LaneVisit A → Input → Visit
visit_on at input = visit_of at.stamp.version at.stamp.item at.rows.now input

-- who the bridge is
abbrev pub asker_of : {A : Type 0} → LaneVisit A → Asker
asker_of at = record { ssrc = at.settings.now.bridge_ssrc; cname = at.settings.now.cname }
