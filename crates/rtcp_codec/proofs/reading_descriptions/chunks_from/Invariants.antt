-- The chunks so far stand before the rest, and what follows them stands in the rest.
use Rattle.std.proofs.Common.{◌≡◌, ◌-◌, ◌%◌, ◌++◌, List, length, map}
use Rattle.std.specs.List.{AllByRecursion}
use Rattle.rtcp_codec.specs.Description.{Chunk, Describe, FitsChunk, HasChunks}
use Rattle.rtcp_codec.specs.View.{chunk_of}
use Rattle.rtcp_codec.proofs.reading_descriptions.chunks_from.Given as goal

abbrev pub invariant-loop : goal.invariant-loop
invariant-loop g l = record {
  count : length l.chunks.items ≡ l.counter;
  fits : AllByRecursion FitsChunk (map chunk_of l.chunks.items);
  parts : (more : List Chunk) → Describe more l.rest → Describe (map chunk_of l.chunks.items ++ more) l.octets;
  whole : HasChunks (l.count - l.counter) l.rest;
  words : length l.rest % 4 ≡ 0;
}
