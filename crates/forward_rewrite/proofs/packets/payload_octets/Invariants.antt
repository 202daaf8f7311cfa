-- The octets so far.
use Rattle.std.proofs.Common.{◌≡◌, ◌%◌, ◌^◌, length, take}
use Rattle.std.specs.Prelude.{sum_by}
use Rattle.forward_rewrite.proofs.packets.payload_octets.Given as goal

abbrev pub invariant-loop-packet : goal.invariant-loop-packet
invariant-loop-packet g l = l.octets ≡ sum_by (λ p. length p.payload) (take l.packet-index l.packets) % 2 ^ 32
