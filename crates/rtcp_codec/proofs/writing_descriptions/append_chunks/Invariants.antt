-- What was written and what is left make the whole, and the capacity suffices for it.
use Rattle.std.proofs.Common.{◌≡◌, ◌+◌, ◌≤◌, ◌++◌, length, map, drop, vec_len, vec_capacity}
use Rattle.std.specs.List.{flat_map, AllByRecursion}
use Rattle.rtcp_codec.specs.Description.{chunk_octets, filled, TextsFit}
use Rattle.rtcp_codec.specs.Packet.{FitsTypesOfChunk}
use Rattle.rtcp_codec.specs.View.{chunk_of}
use Rattle.rtcp_codec.proofs.writing_descriptions.append_chunks.Given as goal

abbrev pub invariant-loop-chunk : goal.invariant-loop-chunk
invariant-loop-chunk g l = record {
  items : l.out.items ++ flat_map (λ c. filled (chunk_octets c)) (map chunk_of (drop l.chunk-index l.chunks))
      ≡ l.fn.out.items ++ flat_map (λ c. filled (chunk_octets c)) (map chunk_of l.chunks);
  len : vec_len l.out + length (flat_map (λ c. filled (chunk_octets c)) (map chunk_of (drop l.chunk-index l.chunks)))
      ≡ vec_len l.fn.out + length (flat_map (λ c. filled (chunk_octets c)) (map chunk_of l.chunks));
  capacity : vec_capacity l.fn.out ≤ vec_capacity l.out;
  texts : AllByRecursion (λ c. TextsFit c.items) (map chunk_of (drop l.chunk-index l.chunks));
  types : AllByRecursion FitsTypesOfChunk (map chunk_of (drop l.chunk-index l.chunks))
      → AllByRecursion FitsTypesOfChunk (map chunk_of l.chunks);
}
