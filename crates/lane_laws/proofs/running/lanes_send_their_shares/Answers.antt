use Rattle.std.proofs.Common.{length, sym, ◌∙◌}
use Rattle.desk_edit.specs.Calls.{no_calls}
use Rattle.bridge_core.specs.Steps.{sends}
use Rattle.bridge_core.specs.Events.{steps_of}
use Rattle.operator_desk.specs.LegalLogs.{calls_of}
use Rattle.lane_laws.specs.Shares.{of_lane}
use Rattle.lane_laws.specs.Learnt.{handled, merged}
use Rattle.lane_laws.proofs.Beginnings.{at_end, own_end, sent_share}
use Rattle.lane_laws.proofs.running.lanes_send_their_shares.Goals as goal

pub returns : goal.returns
returns g c start log ports ends h lane own at =
    let answers = g.P.Pace.answers in
    let taken = g.S.Sink.taken in
    let lanes = handled answers taken ports ends h.ended in
    let steps = steps_of (no_calls start) (merged h) in
    let here = own_end taken ends lane own at in
    let end = here.0 in
    sym here.2
    ∙ sent_share h.lists start log answers taken ports lanes lane end h.new
    (λ k. of_lane k steps (sends (h.new).0 (length ports) start steps)) h.desks h.begin
    (λ k items. c.lanes_send_by_one_list.ensures (h.new).0 (length ports) start (calls_of log) lanes k items)
    (at_end h.lists answers taken ports ends h.ended lane end h.seen here.1)
