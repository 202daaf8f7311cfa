-- The sources so far stand before the rest, which has all the others.
use Rattle.std.proofs.Common.{◌≡◌, ◌^◌, ◌+◌, ◌*◌, ◌<◌, ◌≤◌, ◌++◌, length}
use Rattle.std.specs.List.{AllByRecursion}
use Rattle.rtp_codec.specs.Packet.{number_octets}
use Rattle.rtcp_codec.proofs.bodies.ssrcs_from.Given as goal

abbrev pub invariant-loop : goal.invariant-loop
invariant-loop g l = record {
  count : length l.ssrcs.items ≡ l.counter;
  fits : AllByRecursion (λ ssrc. ssrc < 2 ^ 32) l.ssrcs.items;
  parts : l.octets ≡ number_octets l.ssrcs.items ++ l.rest;
  enough : 4 * l.count ≤ 4 * l.counter + length l.rest;
}
