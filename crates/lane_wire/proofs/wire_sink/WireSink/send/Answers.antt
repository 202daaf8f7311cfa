use Rattle.std.proofs.Common.{◌∙◌, ap, subst, arith}
use Rattle.udp_wire.specs.Attempts.{datagrams_of}
use Rattle.lane_wire.specs.Counted.{after_answer}
use Rattle.lane_wire.specs.Logs.{taken_list}
use Rattle.lane_wire.specs.Sendings.{octets_together, so_far, WereSent}
use Rattle.lane_wire.specs.Sinks.{SinkOf}
use Rattle.lane_wire.proofs.SentLemmas.{sent_one, sent_more}
use Rattle.lane_wire.proofs.wire_sink.WireSink.send.Goals as goal

pub invariant_of-self : goal.invariant_of-self
invariant_of-self g c =
    let here = c.self.inside in
    let steps = g.W.LaneWire.steps in
    let datagrams = datagrams_of c.args.egress.now in
    let trial = c.send_patiently-pauses in
    let answer = trial.result.answer in
    let old = so_far (steps here.wire) here.counts here.is_stuck in
    let new = so_far (steps trial.new.wire) c.count_answer.new.self c.is_unready-self-inside.result in
    sent_more (taken_list here.taken) (taken_list c.note.new.self) c.args.egress.now (steps here.wire)
    (steps trial.new.wire) here.counts c.count_answer.new.self here.is_stuck c.is_unready-self-inside.result
    c.self.invariant
    (sent_one datagrams trial.result.pauses answer old new c.requires trial.ensures.steps
    (omega (arith, trial.ensures.few, c.patience-most.ensures))
    (λ unready. trial.ensures.limit unready ∙ c.patience-most.ensures)
    (c.count_answer.ensures ∙ (ap (λ n. after_answer n answer c.count_pauses.new.self) c.octets_in.ensures
    ∙ ap (after_answer (octets_together datagrams) answer) c.count_pauses.ensures))
    c.is_unready-self-inside.ensures)
    c.note.ensures

pub returns-clause-sent : goal.returns-clause-sent
returns-clause-sent g c =
    let here = c.self.inside in
    let steps = g.W.LaneWire.steps in
    let datagrams = datagrams_of c.args.egress.now in
    let trial = c.send_patiently-pauses in
    let answer = trial.result.answer in
    let old = so_far (steps here.wire) here.counts here.is_stuck in
    let new = so_far (steps trial.new.wire) c.count_answer.new.self c.is_unready-self-inside.result in
    subst (λ (s : SinkOf g.row.W.Denot). WereSent datagrams (so_far (steps s.wire) s.counts s.is_stuck) new)
    c.self.view_is
    (sent_one datagrams trial.result.pauses answer old new c.requires trial.ensures.steps
    (omega (arith, trial.ensures.few, c.patience-most.ensures))
    (λ unready. trial.ensures.limit unready ∙ c.patience-most.ensures)
    (c.count_answer.ensures ∙ (ap (λ n. after_answer n answer c.count_pauses.new.self) c.octets_in.ensures
    ∙ ap (after_answer (octets_together datagrams) answer) c.count_pauses.ensures))
    c.is_unready-self-inside.ensures)
