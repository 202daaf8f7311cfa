use Rattle.std.proofs.Common.{◌+◌, ℕ, List, drop, length, map, ap, subst, sym, ◌∙◌, length-append, arith}
use Rattle.std.specs.List.{flat_map, AllByRecursion}
use Rattle.std.proofs.lemmas.List.Concat.{flat_map-cons}
use Rattle.rtcp_codec.specs.Description.{Chunk, chunk_octets, filled, TextsFit}
use Rattle.rtcp_codec.specs.View.{chunk_of}
use Rattle.rtcp_codec.proofs.Lists.{mapped_left}
use Rattle.rtcp_codec.proofs.checking.chunks_size.Goals as goal

pub loop-chunk-preserved : goal.loop-chunk-preserved
loop-chunk-preserved g c =
    let text : Chunk → List ℕ = λ c. filled (chunk_octets c) in
    let chunk = chunk_of c.chunk-item.result in
    let others = map chunk_of (drop (c.loop-chunk.chunk-index + 1) c.args.chunks.now) in
    let left =
    mapped_left chunk_of c.args.chunks.now c.loop-chunk.chunk-index c.chunk-item.result c.loop-chunk-test.true
    c.chunk-item.is in
    let len =
    ap length (ap (flat_map text) left ∙ flat_map-cons text chunk others)
    ∙ length-append (text chunk) (flat_map text others) in
    record {
      size = omega (arith, len, c.loop-chunk.invariant.size, c.in_ok-more.ensures.size);
      most = omega arith;
      back = λ h. (subst (AllByRecursion (λ (c : Chunk). TextsFit c.items)) left (c.loop-chunk.invariant.back h)).1;
      texts = λ h.
          c.loop-chunk.invariant.texts
          (subst (AllByRecursion (λ (c : Chunk). TextsFit c.items)) (sym left) (c.in_ok-more.ensures.texts, h));
    }
