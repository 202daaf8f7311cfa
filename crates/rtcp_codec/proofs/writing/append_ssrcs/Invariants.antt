-- What was written and what is left make the whole, and the capacity suffices for it.
use Rattle.std.proofs.Common.{◌≡◌, ◌+◌, ◌^◌, ◌<◌, ◌≤◌, ◌++◌, length, drop, vec_len, vec_capacity}
use Rattle.std.specs.List.{AllByRecursion}
use Rattle.rtp_codec.specs.Packet.{number_octets}
use Rattle.rtcp_codec.proofs.writing.append_ssrcs.Given as goal

abbrev pub invariant-loop-ssrc : goal.invariant-loop-ssrc
invariant-loop-ssrc g l = record {
  items : l.out.items ++ number_octets (drop l.ssrc-index l.ssrcs) ≡ l.fn.out.items ++ number_octets l.ssrcs;
  len : vec_len l.out + length (number_octets (drop l.ssrc-index l.ssrcs))
      ≡ vec_len l.fn.out + length (number_octets l.ssrcs);
  capacity : vec_capacity l.fn.out ≤ vec_capacity l.out;
  fits : AllByRecursion (λ ssrc. ssrc < 2 ^ 32) (drop l.ssrc-index l.ssrcs)
      → AllByRecursion (λ ssrc. ssrc < 2 ^ 32) l.ssrcs;
}
