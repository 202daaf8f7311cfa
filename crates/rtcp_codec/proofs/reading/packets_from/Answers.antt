use Rattle.std.proofs.Common.{length, sym, arith}
use Rattle.std.proofs.lemmas.Bool.{eqb-true, eqb-false}
use Rattle.std.proofs.lemmas.List.{nil_from_length}
use Rattle.rtcp_codec.specs.View.{packet_of, packets_of}
use Rattle.rtcp_codec.proofs.Compounds.{all_left, next_left, more_left, none_left}
use Rattle.rtcp_codec.proofs.Lists.{map_more}
use Rattle.rtcp_codec.proofs.reading.packets_from.Goals as goal

pub loop-rest-init : goal.loop-rest-init
loop-rest-init g c = λ ps k. rw c.new-packets.ensures.items (all_left ps c.args.octets.now k)

pub next_packet-requires : goal.next_packet-requires
next_packet-requires g c =
    let rest = c.loop-rest.rest.now in
    next_left c.requires.0 (packets_of c.loop-rest.packets.items) rest
    (omega (arith, eqb-false (length rest) 0 (sym c.loop-rest-test.ensures)))
    (c.loop-rest.invariant c.requires.0 c.requires.1)

pub loop-rest-preserved : goal.loop-rest-preserved
loop-rest-preserved g c =
    let packet = c.in_ok-packet.packet in
    let so_far = c.loop-rest.packets.items in
    let rest = c.loop-rest.rest.now in
    λ ps k.
    rw (c.in_ok-push.ensures.items, map_more packet_of so_far packet) (more_left ps (packets_of so_far)
    (packet_of packet) rest c.in_ok-packet.after.now
    (omega (arith, eqb-false (length rest) 0 (sym c.loop-rest-test.ensures))) c.in_ok-packet.ensures.same
    (c.loop-rest.invariant ps k))

pub returns : goal.returns
returns g c = λ ps k.
    let rest = c.loop-rest.rest.now in
    none_left ps (packets_of c.loop-rest.packets.items) rest
    (nil_from_length rest (eqb-true (length rest) 0 (sym c.loop-rest-test.ensures))) (c.loop-rest.invariant ps k)
