use Rattle.std.proofs.Common.{List, sym, subst}
use Rattle.lane_wire.specs.Logs.{taken_list}
use Rattle.lane_wire.specs.Sinks.{HaveSent}
use Rattle.lane_wire.specs.Tries.{WireStep}
use Rattle.lane_wire.proofs.wire_sink.WireSink.into_sent.Goals as goal

pub returns-clause-asked : goal.returns-clause-asked
returns-clause-asked g c =
    let here = c.self.inside in (
      here.is_stuck,
      subst (λ (steps : List WireStep). HaveSent (taken_list here.taken) steps here.counts here.is_stuck)
          (sym c.into_log-asked.ensures) c.self.invariant,
    )
