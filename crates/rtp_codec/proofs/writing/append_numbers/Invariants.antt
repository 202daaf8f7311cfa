-- The octets of the numbers so far stand behind what stood before, and the capacity suffices for the rest.
use Rattle.std.proofs.Common.{◌≡◌, ◌+◌, ◌*◌, ◌≤◌, ◌++◌, drop, vec_len, vec_capacity}
use Rattle.rtp_codec.specs.Packet.{number_octets}
use Rattle.rtp_codec.proofs.writing.append_numbers.Given as goal

abbrev pub invariant-loop-number : goal.invariant-loop-number
invariant-loop-number g l = record {
  items : l.out.items ++ number_octets (drop l.number-index l.numbers) ≡ l.fn.out.items ++ number_octets l.numbers;
  len : vec_len l.out ≡ vec_len l.fn.out + 4 * l.number-index;
  capacity : vec_capacity l.fn.out ≤ vec_capacity l.out;
}
