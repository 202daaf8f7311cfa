use Rattle.std.proofs.Common.{arith}
use Rattle.playout.proofs.Turned.{ring_long}
use Rattle.playout.proofs.ring.Ring.len.Goals as goal

pub returns : goal.returns
returns g c =
    let inside = c.self.inside in
    omega (
      arith,
      c.len.ensures,
      inside.present.ok.0,
      ring_long inside.start inside.present.items inside.samples.items c.args.self.now c.self.invariant c.self.view_is,
    )
