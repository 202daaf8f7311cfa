use Rattle.std.proofs.Common.{rules, ◌<◌, ◌^◌, ap}
use Rattle.std.specs.Prelude.{option_copied}
use Rattle.retransmit.specs.SentPacket.{SentPacket}
use Rattle.retransmit.proofs.Looked.{looked_up}
use Rattle.retransmit.proofs.window.Window.numbered.Goals as goal

pub returns : goal.returns
returns g c owner =
    let oldest = c.in_ok-oldest.oldest.now in
    let number = ap (λ (p : SentPacket). p.number) c.oldest.view_is in
    let fits : c.oldest.inside.number < 2 ^ 16 = search rules in
    looked_up c.self.inside.ring.items c.args.self.now c.args.number owner oldest c.oldest.inside.number
    c.seq_distance-place.result c.from.result (option_copied c.get.result)
    c.self.view_is c.self.invariant.in_a_row c.self.invariant.few c.in_ok-oldest.ensures number fits
    c.ranges.number.fits c.seq_distance-place.ensures c.from.ensures c.get.ensures
