use Rattle.std.proofs.Common.{refl, ap}
use Rattle.bridge_core.specs.LaneState.{stream_at}
use Rattle.bridge_core.proofs.lane.LaneState.new.Goals as goal

pub returns-clause-nothing_handled : goal.returns-clause-nothing_handled
returns-clause-nothing_handled g c = record {
  handled = refl;
  video = λ ssrc mine. ap (stream_at ssrc) c.in_ok-parts.ensures.video;
  audio = c.in_ok-parts.ensures.audio c.args.lane c.args.lanes;
}
