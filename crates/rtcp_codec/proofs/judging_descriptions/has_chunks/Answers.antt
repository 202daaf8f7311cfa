use Rattle.std.proofs.Common.{◌≡◌, ℕ, suc, ◌+◌, ◌-◌, List, [], ◌∷◌, ◌++◌, subst, arith, length-append}
use Rattle.std.proofs.lemmas.List.{append-nil}
use Rattle.rtcp_codec.specs.Description.{Chunk, Describe, FitsChunk, HasChunks}
use Rattle.rtcp_codec.proofs.Descriptions.{no_chunks, chunks_behind, Describe-more}
use Rattle.rtcp_codec.proofs.Lists.{AllByRecursion-push}
use Rattle.rtcp_codec.proofs.judging_descriptions.has_chunks.Goals as goal

pub returns-in_default-clause-bad : goal.returns-in_default-clause-bad
returns-in_default-clause-bad c =
    let left : c.args.count - c.loop.counter ≡ suc (c.args.count - (c.loop.counter + 1)) = omega arith in
    λ e many.
    no_chunks c.loop.rest.now _ c.in_default.ensures.none
    (subst (λ (n : ℕ). HasChunks n c.loop.rest.now) left (c.loop.invariant.whole many))

pub loop-preserved : goal.loop-preserved
loop-preserved c =
    let so_far = c.loop.invariant.parts in
    let found = c.in-Some.ensures.some in
    let left : c.args.count - c.loop.counter ≡ suc (c.args.count - (c.loop.counter + 1)) = omega arith in
    record {
      parts = (
        so_far.0 ++ found.0 ∷ [],
        omega (arith, so_far.1, length-append so_far.0 (found.0 ∷ [])),
        AllByRecursion-push FitsChunk so_far.0 found.0 so_far.2 found.2,
        Describe-more so_far.0 found.0 c.args.octets.now c.loop.rest.now c.in-Some.after.now found.1 so_far.3 found.3
            found.4,
      );
      whole = λ many.
          chunks_behind found.0 found.1 c.loop.rest.now c.in-Some.after.now _ found.2 found.3 found.4
          (subst (λ (n : ℕ). HasChunks n c.loop.rest.now) left (c.loop.invariant.whole many));
      words = c.in-Some.ensures.words;
    }

pub returns-clause-good : goal.returns-clause-good
returns-clause-good c e =
    let so_far = c.loop.invariant.parts in (
      so_far.0,
      omega (arith, so_far.1),
      so_far.2,
      subst (λ (l : List Chunk). Describe l c.args.octets.now) (append-nil so_far.0) (so_far.3 [] tt),
    )
