use Rattle.std.proofs.Common.{arith}
use Rattle.udp_wire.proofs.WireLemmas.{grew_step_of}
use Rattle.udp_wire.proofs.wire.send_all.Goals as goal

pub loop-egress-preserved : goal.loop-egress-preserved
loop-egress-preserved g c = record {
  few = let a = c.loop-egress.invariant.few in let b = c.send_one-failed.ensures.small in omega arith;
  tried =
      grew_step_of (λ e. e.1) c.args.egresses.now c.loop-egress.egress-index _ _ _ _ _ _ c.loop-egress-test.true
      c.loop-egress-item.is c.loop-egress.invariant.tried c.send_one-failed.ensures.grew;
}
