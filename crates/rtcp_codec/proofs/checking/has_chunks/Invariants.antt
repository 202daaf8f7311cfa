-- Each item of the chunks so far is told.
use Rattle.std.proofs.Common.{drop, map}
use Rattle.std.specs.List.{AllByRecursion}
use Rattle.rtcp_codec.specs.View.{chunk_of}
use Rattle.rtcp_codec.specs.Description.{ItemsTold}
use Rattle.rtcp_codec.proofs.checking.has_chunks.Given as goal

abbrev pub invariant-loop-chunk : goal.invariant-loop-chunk
invariant-loop-chunk g l = record {
  good : AllByRecursion (λ c. ItemsTold c.items) (map chunk_of (drop l.chunk-index l.chunks))
      → AllByRecursion (λ c. ItemsTold c.items) (map chunk_of l.chunks);
  back : AllByRecursion (λ c. ItemsTold c.items) (map chunk_of l.chunks)
      → AllByRecursion (λ c. ItemsTold c.items) (map chunk_of (drop l.chunk-index l.chunks));
}
