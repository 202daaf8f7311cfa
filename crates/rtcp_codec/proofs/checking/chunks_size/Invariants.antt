-- The size so far and that of what is left make the whole, and the texts so far fit.
use Rattle.std.proofs.Common.{◌≡◌, ◌+◌, ◌≤◌, length, map, drop}
use Rattle.std.specs.List.{flat_map, AllByRecursion}
use Rattle.rtcp_codec.specs.Description.{chunk_octets, filled, TextsFit}
use Rattle.rtcp_codec.specs.View.{chunk_of}
use Rattle.rtcp_codec.specs.WriteFault.{most_octets}
use Rattle.rtcp_codec.proofs.checking.chunks_size.Given as goal

abbrev pub invariant-loop-chunk : goal.invariant-loop-chunk
invariant-loop-chunk g l = record {
  size : l.size + length (flat_map (λ c. filled (chunk_octets c)) (map chunk_of (drop l.chunk-index l.chunks)))
      ≡ length (flat_map (λ c. filled (chunk_octets c)) (map chunk_of l.chunks));
  most : l.size ≤ most_octets;
  back : AllByRecursion (λ c. TextsFit c.items) (map chunk_of l.chunks)
      → AllByRecursion (λ c. TextsFit c.items) (map chunk_of (drop l.chunk-index l.chunks));
  texts : AllByRecursion (λ c. TextsFit c.items) (map chunk_of (drop l.chunk-index l.chunks))
      → AllByRecursion (λ c. TextsFit c.items) (map chunk_of l.chunks);
}
