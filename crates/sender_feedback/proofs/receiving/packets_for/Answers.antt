use Rattle.std.proofs.Common.{◌≡◌, ℕ, ◌++◌, List, [], ◌∷◌, length, map, ap, sym, ◌∙◌, arith}
use Rattle.std.specs.List.{range_with_len}
use Rattle.std.proofs.lemmas.List.{map-append}
use Rattle.std.proofs.lemmas.List.FromFn.{map-range_with_len_more}
use Rattle.rtcp_codec.specs.Packet.{Packet, Receiver}
use Rattle.rtcp_codec.specs.View.{packet_of, packets_of}
use Rattle.sender_feedback.specs.ReceiverReports.{blocks_at, count_of_reports}
use Rattle.sender_feedback.proofs.receiving.packets_for.Goals as goal

pub loop-place-preserved : goal.loop-place-preserved
loop-place-preserved g c =
    let place = c.loop-place.place in
    let f = λ (i : ℕ). Receiver c.args.ssrc (blocks_at c.args.blocks.now i) in
    ap packets_of c.in_ok-push.ensures.items
    ∙ map-append packet_of c.loop-place.packets.items (c.in_ok-report_at.field-0 ∷ [])
    ∙ ap (λ (ps : List Packet). ps ++ packet_of c.in_ok-report_at.field-0 ∷ []) c.loop-place.invariant
    ∙ ap (λ p. map f (range_with_len 0 place) ++ p ∷ []) c.in_ok-report_at.ensures
    ∙ sym (map-range_with_len_more f 0 place place (omega arith))

pub returns-clause-packets : goal.returns-clause-packets
returns-clause-packets g c =
    let f = λ (i : ℕ). Receiver c.args.ssrc (blocks_at c.args.blocks.now i) in
    let all : c.loop-place.place ≡ count_of_reports (length c.args.blocks.now) =
    omega (arith, c.loop-place.auto.place-end, c.loop-place-test.false, c.count_of_reports-count.ensures) in
    ap packets_of c.in_ok-push-2.ensures.items
    ∙ map-append packet_of c.loop-place.packets.items (c.in_ok-named.field-0 ∷ [])
    ∙ ap (λ (ps : List Packet). ps ++ packet_of c.in_ok-named.field-0 ∷ [])
    (c.loop-place.invariant ∙ ap (λ n. map f (range_with_len 0 n)) all)
    ∙ ap (λ p. map f (range_with_len 0 (count_of_reports (length c.args.blocks.now))) ++ p ∷ [])
    c.in_ok-named.ensures.packet
