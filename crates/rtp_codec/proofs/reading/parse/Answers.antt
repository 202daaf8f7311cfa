-- What the code splits off is named by the definitions of the parts.
use Rattle.std.proofs.Common.{refl, ◌∙◌, ◌%◌, get_or, arith}
use Rattle.rtp_codec.specs.View.{packet_of}
use Rattle.rtp_codec.proofs.PacketLemmas.{fault_behind, fixed_header_is, parts_joined, counted_parts}
use Rattle.rtp_codec.proofs.reading.parse.Goals as goal

pub returns-in_default-clause-fault : goal.returns-in_default-clause-fault
returns-in_default-clause-fault c =
    fault_behind c.args.octets.now c.split_at.result.0.now c.split_at.result.1.now c.split_at-2.result.1.now _
    (omega arith) c.split_at.ensures.front c.split_at.ensures.back c.if-first-ne2.false (omega arith) (omega arith)
    c.split_at-2.ensures.back
    ∙ rw c.in_default.ensures.lacks refl

pub returns-in_default-split_padding-clause-fault :
    goal.returns-in_default-split_padding-clause-fault
returns-in_default-split_padding-clause-fault c =
    fault_behind c.args.octets.now c.split_at.result.0.now c.split_at.result.1.now c.split_at-2.result.1.now _
    (omega arith) c.split_at.ensures.front c.split_at.ensures.back c.if-first-ne2.false (omega arith) (omega arith)
    c.split_at-2.ensures.back
    ∙ rw (c.in-Some.ensures.lacks, ← c.in-Some.ensures.behind, c.in_default-split_padding.ensures.lacks) refl

pub returns-clause-found : goal.returns-clause-found
returns-clause-found c =
    let fixed = c.split_at.result.0.now in
    let header =
    fixed_header_is fixed _ _ c.header_of-header.result (omega arith) c.if-first-ne2.false
    c.in-Some-split_padding.ensures.padded c.in-Some.ensures.extended c.header_of-header.ensures.second
    c.header_of-header.ensures.numbers in
    let view =
    packet_of (record {
      marker = c.header_of-header.result.marker;
      pt = c.header_of-header.result.pt;
      seq = c.header_of-header.result.seq;
      ts = c.header_of-header.result.ts;
      ssrc = c.header_of-header.result.ssrc;
      csrcs = c.split_at-2.result.0;
      extension = c.in-Some.extension;
      payload = c.in-Some-split_padding.payload;
      padding = c.in-Some-split_padding.padding;
    }) in
    record {
      padding_octets = c.in-Some-split_padding.ensures.parts.0;
      parts =
          counted_parts view c.args.octets.now (get_or fixed 0 0 % 16) _ (omega arith)
          (parts_joined c.args.octets.now fixed c.split_at.result.1.now c.split_at-2.result.0.now
          c.split_at-2.result.1.now
          _ c.in-Some.rest.now c.in-Some-split_padding.payload.now c.in-Some-split_padding.ensures.parts.0 _ _
          c.split_at.ensures.front c.split_at.ensures.back c.split_at-2.ensures.front c.split_at-2.ensures.back
          c.in-Some.ensures.parts c.in-Some-split_padding.ensures.parts.2 header);
      header = c.header_of-header.ensures.fits;
      csrcs = omega arith;
      csrcs_fit = omega arith;
      extension = c.in-Some.ensures.fits;
      padding = c.in-Some-split_padding.ensures.parts.1;
    }

pub returns-clause-fault : goal.returns-clause-fault
returns-clause-fault c =
    fault_behind c.args.octets.now c.split_at.result.0.now c.split_at.result.1.now c.split_at-2.result.1.now _
    (omega arith) c.split_at.ensures.front c.split_at.ensures.back c.if-first-ne2.false (omega arith) (omega arith)
    c.split_at-2.ensures.back
    ∙ rw (c.in-Some.ensures.lacks, ← c.in-Some.ensures.behind, c.in-Some-split_padding.ensures.lacks) refl
