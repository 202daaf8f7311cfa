use Rattle.std.proofs.Common.{◌≡◌, ℕ, suc, ◌+◌, ◌-◌, List, [], ◌∷◌, map, subst, arith, length-append}
use Rattle.std.proofs.lemmas.List.{append-nil}
use Rattle.rtcp_codec.specs.Description.{Chunk, Describe, FitsChunk, HasChunks}
use Rattle.rtcp_codec.specs.View.{chunk_of}
use Rattle.rtcp_codec.proofs.Descriptions.{chunk_stands, chunks_behind, Describe-more}
use Rattle.rtcp_codec.proofs.Lists.{AllByRecursion-push, map_more}
use Rattle.rtcp_codec.proofs.reading_descriptions.chunks_from.Goals as goal

pub chunk_from-requires-clause-whole : goal.chunk_from-requires-clause-whole
chunk_from-requires-clause-whole g c =
    let left : c.args.count - c.loop.counter ≡ suc (c.args.count - (c.loop.counter + 1)) = omega arith in
    chunk_stands c.loop.rest.now _ (subst (λ (n : ℕ). HasChunks n c.loop.rest.now) left c.loop.invariant.whole)

pub loop-preserved : goal.loop-preserved
loop-preserved g c =
    let chunk = c.in_ok-chunk.chunk in
    let so_far = c.loop.chunks.items in
    let found = c.in_ok-chunk.ensures.parts in
    let e = c.in_ok-push.ensures.items in
    let left : c.args.count - c.loop.counter ≡ suc (c.args.count - (c.loop.counter + 1)) = omega arith in
    record {
      count = rw e (omega (arith, length-append so_far (chunk ∷ [])));
      fits =
          rw (e, map_more chunk_of so_far chunk) (AllByRecursion-push FitsChunk (map chunk_of so_far) (chunk_of chunk)
          c.loop.invariant.fits c.in_ok-chunk.ensures.fits);
      parts =
          rw (e, map_more chunk_of so_far chunk) (Describe-more (map chunk_of so_far) (chunk_of chunk) c.args.octets.now
          c.loop.rest.now _ found.0 c.loop.invariant.parts found.1 found.2);
      whole =
          chunks_behind (chunk_of chunk) found.0 c.loop.rest.now _ _ c.in_ok-chunk.ensures.fits found.1 found.2
          (subst (λ (n : ℕ). HasChunks n c.loop.rest.now) left c.loop.invariant.whole);
      words = c.in_ok-chunk.ensures.words;
    }

pub returns-clause-parts : goal.returns-clause-parts
returns-clause-parts g c =
    subst (λ (l : List Chunk). Describe l c.args.octets.now) (append-nil (map chunk_of c.loop.chunks.items))
    (c.loop.invariant.parts [] tt)
