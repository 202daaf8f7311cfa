use Rattle.std.proofs.Common.{◌≤◌, take, map}
use Rattle.udp_wire.specs.Attempts.{GrewBy}
use Rattle.udp_wire.proofs.wire.send_all.Given as goal

-- what goes out of each egress so far was tried once, in order, and the failures were counted
abbrev pub invariant-loop-egress : goal.invariant-loop-egress
invariant-loop-egress g l = record {
  few : l.failed ≤ l.egress-index;
  tried : GrewBy (map (λ e. e.1) (take l.egress-index l.egresses)) (g.W.Wire.attempts l.fn.wire)
      (g.W.Wire.attempts l.wire) l.failed;
}
