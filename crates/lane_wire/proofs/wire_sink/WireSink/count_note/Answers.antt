use Rattle.std.proofs.Common.{subst}
use Rattle.udp_wire.specs.Attempts.{datagrams_of}
use Rattle.lane_wire.specs.Logs.{taken_list}
use Rattle.lane_wire.specs.Sendings.{so_far, WereSent}
use Rattle.lane_wire.specs.Sinks.{SinkOf}
use Rattle.lane_wire.proofs.SentLemmas.{sent_none, sent_more}
use Rattle.lane_wire.proofs.wire_sink.WireSink.count_note.Goals as goal

pub invariant_of-self : goal.invariant_of-self
invariant_of-self g c =
    let here = c.self.inside in
    let steps = g.W.LaneWire.steps in
    sent_more (taken_list here.taken) (taken_list c.note.new.self) c.args.note.now (steps here.wire) (steps here.wire)
    here.counts here.counts here.is_stuck here.is_stuck c.self.invariant
    (sent_none (datagrams_of c.args.note.now) (steps here.wire) here.counts here.is_stuck c.requires) c.note.ensures

pub returns-clause-sent : goal.returns-clause-sent
returns-clause-sent g c =
    let here = c.self.inside in
    let steps = g.W.LaneWire.steps in
    let datagrams = datagrams_of c.args.note.now in
    let now = so_far (steps here.wire) here.counts here.is_stuck in
    subst (λ (s : SinkOf g.row.W.Denot). WereSent datagrams (so_far (steps s.wire) s.counts s.is_stuck) now)
    c.self.view_is
    (sent_none datagrams (steps here.wire) here.counts here.is_stuck c.requires)
