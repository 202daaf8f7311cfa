use Rattle.std.proofs.Common.{◌+◌, ◌++◌, ℕ, List, drop, length, map, ap, subst, sym, ◌∙◌, append_assoc, length-append}
use Rattle.std.proofs.Common.{arith}
use Rattle.std.specs.List.{flat_map, AllByRecursion}
use Rattle.std.proofs.lemmas.List.Concat.{flat_map-cons}
use Rattle.rtcp_codec.specs.Description.{Chunk, chunk_octets, filled, TextsFit}
use Rattle.rtcp_codec.specs.Packet.{FitsTypesOfChunk}
use Rattle.rtcp_codec.specs.View.{chunk_of}
use Rattle.rtcp_codec.proofs.Lists.{mapped_left}
use Rattle.rtcp_codec.proofs.writing_descriptions.append_chunks.Goals as goal

pub loop-chunk-preserved : goal.loop-chunk-preserved
loop-chunk-preserved g c =
    let text : Chunk → List ℕ = λ c. filled (chunk_octets c) in
    let chunk = chunk_of c.chunk-item.result in
    let others = map chunk_of (drop (c.loop-chunk.chunk-index + 1) c.args.chunks.now) in
    let left =
    mapped_left chunk_of c.args.chunks.now c.loop-chunk.chunk-index c.chunk-item.result c.loop-chunk-test.true
    c.chunk-item.is in
    let texts = ap (flat_map text) left ∙ flat_map-cons text chunk others in
    let len = ap length texts ∙ length-append (text chunk) (flat_map text others) in
    record {
      items =
          ap (λ (l : List ℕ). l ++ flat_map text others) c.append_chunk.ensures.items
          ∙ append_assoc c.loop-chunk.out.items (text chunk) (flat_map text others)
          ∙ ap (λ (l : List ℕ). c.loop-chunk.out.items ++ l) (sym texts)
          ∙ c.loop-chunk.invariant.items;
      len = omega (arith, len, c.loop-chunk.invariant.len, c.append_chunk.ensures.len);
      capacity = omega arith;
      texts = (subst (AllByRecursion (λ c. TextsFit c.items)) left c.loop-chunk.invariant.texts).1;
      types = λ h.
          c.loop-chunk.invariant.types
          (subst (AllByRecursion FitsTypesOfChunk) (sym left) (c.append_chunk.ensures.types, h));
    }
