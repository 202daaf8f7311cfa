-- The lanes so far are fresh.
use Rattle.std.proofs.Common.{◌≡◌, length}
use Rattle.bridge_core.specs.Sound.{AreFresh}
use Rattle.bridge_core.proofs.bridge.lane_states.Given as goal

abbrev pub invariant-loop-lane : goal.invariant-loop-lane
invariant-loop-lane g l = record {
  fresh : AreFresh l.lanes (record { ssrc = l.settings.bridge_ssrc; cname = l.settings.cname }) l.states.items;
  count : length l.states.items ≡ l.lane;
}
