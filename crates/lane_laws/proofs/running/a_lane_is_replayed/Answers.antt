use Rattle.std.proofs.Common.{length, map, sym, ◌∙◌}
use Rattle.operator_desk.specs.LegalLogs.{calls_of}
use Rattle.media_workers.specs.LaneRuns.{versioned}
use Rattle.lane_laws.specs.Learnt.{handled}
use Rattle.lane_laws.specs.Replays.{by_told}
use Rattle.lane_laws.proofs.Beginnings.{items_fit, sent_itself}
use Rattle.lane_laws.proofs.Told.{told_at}
use Rattle.lane_laws.proofs.running.a_lane_is_replayed.Goals as goal

pub returns : goal.returns
returns g c start log ports ends h place port end at ends_at =
    let answers = g.P.Pace.answers in
    let taken = g.S.Sink.taken in
    let after = h.after in
    let lanes = handled answers taken ports ends (by_told h).ended in
    let here = told_at after.lists answers taken g.S.Sink.heard ports ends h.told place port end h.seen at ends_at in
    let ended = here.told.ended in
    let items = map versioned ended.ran.served in
    let fit = items_fit after.lists start log answers taken port end ended after.desks here.seen in (
      items,
      here.items,
      record {
        heard = here.told.heard;
        order = fit.0;
        few = fit.1;
        sent =
            sent_itself after.lists start log answers taken ports lanes place end after.new after.desks after.begin
            record { port = port; its_lane = here.its_lane; ended = ended; seen = here.seen; items = here.items }
            ∙ sym
            (c.one_lane_sends_it_alone.ensures (after.new).0 (length ports) place start (calls_of log) items fit.0
            fit.1);
      },
    )
