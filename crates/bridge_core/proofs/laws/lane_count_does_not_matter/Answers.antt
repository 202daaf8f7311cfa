use Rattle.std.proofs.Common.{◌%◌, ◌<◌, arith}
use Rattle.bridge_core.specs.EveryLane.{to_every}
use Rattle.bridge_core.proofs.LaneCount.{same_stream}
use Rattle.bridge_core.proofs.EveryLaneLaws.{same_visits}
use Rattle.bridge_core.proofs.laws.lane_count_does_not_matter.Goals as goal

pub returns-clause-same_items : goal.returns-clause-same_items
returns-clause-same_items c who few many start these those ssrc same =
    same_stream who few many start these those ssrc same

pub returns-clause-every_lane : goal.returns-clause-every_lane
returns-clause-every_lane c who few many start steps ssrc some others =
    let here : ssrc % few < few = omega (arith, some) in
    let there : ssrc % many < many = omega (arith, others) in
    same_stream who few many start (to_every few steps) (to_every many steps) ssrc
    (same_visits (ssrc % few) (ssrc % many) few many start steps here there)
