use Rattle.lane_wire.proofs.SentLemmas.{sent_nothing}
use Rattle.lane_wire.proofs.wire_sink.WireSink.of_parts.Goals as goal

pub invariant_of-result : goal.invariant_of-result
invariant_of-result g c = sent_nothing _ _ _ c.new.ensures c.requires c.new-2.ensures
