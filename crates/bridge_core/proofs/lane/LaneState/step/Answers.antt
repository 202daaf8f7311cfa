use Rattle.std.proofs.Common.{◌+◌, map, refl, subst}
use Rattle.media_items.specs.Inputs.{input_of}
use Rattle.bridge_core.specs.Sent.{sent_of}
use Rattle.bridge_core.specs.LaneState.{LaneOf, Handles}
use Rattle.bridge_core.proofs.StepLaws.{handles}
use Rattle.bridge_core.proofs.lane.LaneState.step.Goals as goal

pub returns-clause-sends : goal.returns-clause-sends
returns-clause-sends g c =
    let was = c.self.inside in
    let after = c.answer.new.self in
    let old : LaneOf =
    record {
      lane = was.place.lane;
      lanes = was.place.lanes;
      who = record { ssrc = was.settings.bridge_ssrc; cname = was.settings.cname };
      handled = was.handled;
      video = was.parts.video;
      audio = was.parts.audio;
    } in
    let new : LaneOf =
    record {
      lane = was.place.lane;
      lanes = was.place.lanes;
      who = record { ssrc = was.settings.bridge_ssrc; cname = was.settings.cname };
      handled = was.handled + 1;
      video = after.video;
      audio = after.audio;
    } in
    let sent = map (sent_of {A = g.row.A.Denot}) c.in_ok-sent.sent.items in
    let input = input_of c.args.item.now in
    subst (λ (s : LaneOf). Handles s new c.args.version c.args.rows.now input sent) c.self.view_is
    (handles old new c.args.version c.args.rows.now input sent c.in_ok-sent.ensures.sends refl refl refl)
