use Rattle.std.proofs.Common.{[], ◌∷◌, refl, ap, ◌∙◌}
use Rattle.std.specs.Prelude.{filter}
use Rattle.bridge_core.specs.Lanes.{is_lanes}
use Rattle.lane_laws.specs.Visits.{desk_at, visits_by}
use Rattle.lane_laws.proofs.Alone.{alone_is, lane_of_alone}
use Rattle.lane_laws.proofs.laws.one_lane_sends_it_alone.Goals as goal

pub returns : goal.returns
returns c who many lane start calls items order few =
    ap (filter (is_lanes lane many))
    (alone_is who start calls items
    ∙ c.lanes_send_by_one_list.ensures who 1 start calls (items ∷ []) 0 items refl order few)
    ∙ lane_of_alone who many lane [] (visits_by (desk_at start calls) 0 items)
