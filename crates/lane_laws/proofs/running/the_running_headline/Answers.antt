use Rattle.std.proofs.Common.{◌≡◌, length, sym, subst}
use Rattle.desk_edit.specs.Calls.{no_calls}
use Rattle.desk_calls.specs.Accepted.{AreAccepted}
use Rattle.bridge_core.specs.Steps.{sends}
use Rattle.bridge_core.specs.Events.{steps_of, calls_among}
use Rattle.operator_desk.specs.LegalLogs.{calls_of}
use Rattle.lane_laws.specs.Shares.{of_lane}
use Rattle.lane_laws.specs.NamedVersions.{AreGiven}
use Rattle.lane_laws.specs.Learnt.{handled, merged}
use Rattle.lane_laws.proofs.UndoneCalls.{desk_back}
use Rattle.lane_laws.proofs.running.the_running_headline.Goals as goal

pub returns-clause-undone : goal.returns-clause-undone
returns-clause-undone g c start log ports ends h before rest commands is undone has =
    desk_back start log before rest h.lists commands h.desks is undone has

pub returns-clause-lanes : goal.returns-clause-lanes
returns-clause-lanes g c start log ports ends h few many ssrc some others =
    c.lane_count_does_not_matter.ensures.every_lane (h.new).0 few many start (steps_of (no_calls start) (merged h)) ssrc
    some others

pub returns-clause-holds : goal.returns-clause-holds
returns-clause-holds g c start log ports ends h =
    let calls =
    c.calls_keep_their_order.ensures (calls_of log) (handled g.P.Pace.answers g.S.Sink.taken ports ends h.ended) in
    record {
      calls_are = calls;
      shares = c.lanes_send_their_shares.ensures start log ports ends h;
      holds =
          c.legal_lists_hold.ensures (h.new).0 (length ports) start (merged h) h.first
          (subst (AreAccepted (no_calls start)) (sym calls) h.legal);
    }

pub returns-clause-sent : goal.returns-clause-sent
returns-clause-sent g c start log ports ends h lane own at =
    let calls =
    c.calls_keep_their_order.ensures (calls_of log) (handled g.P.Pace.answers g.S.Sink.taken ports ends h.ended) in
    let steps = steps_of (no_calls start) (merged h) in
    let mine = of_lane lane steps (sends (h.new).0 (length ports) start steps) in
    let share : own ≡ mine = c.lanes_send_their_shares.ensures start log ports ends h lane own at in
    let given : AreGiven start (calls_among (merged h)) mine =
    c.packets_go_by_their_versions.ensures (h.new).0 (length ports) lane start (merged h) h.first
    (subst (AreAccepted (no_calls start)) (sym calls) h.legal) in
    subst (AreGiven start (calls_of log)) (sym share) (subst (λ cs. AreGiven start cs mine) calls given)
