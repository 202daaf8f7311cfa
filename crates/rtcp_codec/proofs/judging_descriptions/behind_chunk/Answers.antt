use Rattle.std.proofs.Common.{arith}
use Rattle.rtcp_codec.specs.Description.{Chunk}
use Rattle.rtcp_codec.proofs.Descriptions.{chunk_parts}
use Rattle.rtcp_codec.proofs.judging_descriptions.behind_chunk.Goals as goal

pub returns-clause-some : goal.returns-clause-some
returns-clause-some c =
    let items = c.in_ok-rest.ensures.some in
    let chunk : Chunk = record { ssrc = c.u32_from.result.0; items = items.0 } in
    let found =
    chunk_parts chunk c.args.octets.now c.u32_from.result.1.now c.in_ok-rest.rest.now c.split_at.result.0.now
    c.split_at.result.1.now c.requires c.u32_from.ensures.parts items.2 c.split_at.ensures.front
    c.split_at.ensures.back in
    (chunk, found.0, record { ssrc = omega arith; items = items.1 }, found.1, found.2)
