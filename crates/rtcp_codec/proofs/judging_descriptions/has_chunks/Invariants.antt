-- Chunks stand before the rest, and what follows them stands in the rest.
use Rattle.std.proofs.Common.{◌≡◌, ◌-◌, ◌%◌, ◌++◌, List, length}
use Rattle.std.specs.List.{AllByRecursion}
use Rattle.rtcp_codec.specs.Description.{Chunk, Describe, FitsChunk, HasChunks}
use Rattle.rtcp_codec.proofs.judging_descriptions.has_chunks.Given as goal

abbrev pub invariant-loop : goal.invariant-loop
invariant-loop l = record {
  parts : (cs : List Chunk) × (length cs ≡ l.counter) × AllByRecursion FitsChunk cs
      × ((more : List Chunk) → Describe more l.rest → Describe (cs ++ more) l.octets);
  whole : HasChunks l.count l.octets → HasChunks (l.count - l.counter) l.rest;
  words : length l.rest % 4 ≡ 0;
}
