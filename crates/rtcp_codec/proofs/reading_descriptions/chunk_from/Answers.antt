use Rattle.rtcp_codec.specs.View.{chunk_of}
use Rattle.rtcp_codec.proofs.Descriptions.{chunk_long, items_stand, chunk_parts}
use Rattle.rtcp_codec.proofs.reading_descriptions.chunk_from.Goals as goal

pub u32_from-ssrc-requires : goal.u32_from-ssrc-requires
u32_from-ssrc-requires g c = chunk_long c.args.octets.now c.requires.whole

pub items_from-requires : goal.items_from-requires
items_from-requires g c =
    items_stand c.u32_from-ssrc.result.0 c.args.octets.now c.u32_from-ssrc.result.1.now c.u32_from-ssrc.ensures.parts
    c.requires.whole

pub returns-clause-parts : goal.returns-clause-parts
returns-clause-parts g c =
    chunk_parts (chunk_of (record { ssrc = c.u32_from-ssrc.result.0; items = c.in_ok-items.items })) c.args.octets.now
    c.u32_from-ssrc.result.1.now c.in_ok-items.rest.now c.split_at.result.0.now c.split_at.result.1.now c.requires.words
    c.u32_from-ssrc.ensures.parts c.in_ok-items.ensures.parts c.split_at.ensures.front c.split_at.ensures.back
