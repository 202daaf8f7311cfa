-- The packet that was judged is the one at the front.
use Rattle.std.proofs.Common.{sym, ◌∙◌, length, arith}
use Rattle.std.proofs.lemmas.Bool.{eqb-true, eqb-false}
use Rattle.std.proofs.lemmas.List.{nil_from_length}
use Rattle.rtcp_codec.proofs.WholeBodies.{judged_packet, padding_first, body_first}
use Rattle.rtcp_codec.proofs.judging.judge_packet.Goals as goal

pub returns-then-not-has_good_padding-clause-err : goal.returns-then-not-has_good_padding-clause-err
returns-then-not-has_good_padding-clause-err c =
    let rest = c.in_ok-packet.rest.now in
    padding_first c.args.first c.is_empty.result c.args.octets.now c.in_ok-packet.packet.now rest
    c.in_ok-packet.ensures.head c.in_ok-packet.ensures.packet c.in_ok-packet.ensures.parts
    (λ e. omega (arith, eqb-false (length rest) 0 (sym c.is_empty.ensures ∙ e)))
    (c.has_good_padding.ensures.bad c.if-not-has_good_padding.true)

pub returns-then-not-has_body-clause-err : goal.returns-then-not-has_body-clause-err
returns-then-not-has_body-clause-err c =
    let rest = c.in_ok-packet.rest.now in
    body_first c.args.first c.is_empty.result c.args.octets.now c.in_ok-packet.packet.now rest c.body_at.result.now
    c.in_ok-packet.ensures.head c.in_ok-packet.ensures.packet c.in_ok-packet.ensures.parts
    (λ e. nil_from_length rest (eqb-true (length rest) 0 (sym c.is_empty.ensures ∙ e)))
    (c.has_good_padding.ensures.good c.if-not-has_good_padding.false) c.body_at.ensures
    (c.has_body.ensures.lacks c.if-not-has_body.true)

pub returns-clause-ok : goal.returns-clause-ok
returns-clause-ok c =
    let rest = c.in_ok-packet.rest.now in
    judged_packet c.args.first c.is_empty.result c.args.octets.now c.in_ok-packet.packet.now rest c.body_at.result.now
    (λ i. omega (arith, c.type_inv.octets i)) c.in_ok-packet.ensures.head c.in_ok-packet.ensures.packet
    c.in_ok-packet.ensures.parts
    (λ e. nil_from_length rest (eqb-true (length rest) 0 (sym c.is_empty.ensures ∙ e)))
    (c.has_good_padding.ensures.good c.if-not-has_good_padding.false) c.body_at.ensures
    (c.has_body.ensures.whole c.if-not-has_body.false)
