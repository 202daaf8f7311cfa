use Rattle.std.proofs.Common.{◌∙◌, ap, sym, arith}
use Rattle.playout.specs.inner.Cells.{cells_of, turned}
use Rattle.playout.proofs.Arrays.{length-cells}
use Rattle.playout.proofs.Turned.{ring_long, blank, emptied_all}
use Rattle.playout.proofs.ring.Ring.clear.Goals as goal

pub returns-clause-blank : goal.returns-clause-blank
returns-clause-blank g c =
    let inside = c.self.inside in
    let many = length-cells inside.present.items inside.samples.items c.self.invariant.alike in
    let cells = cells_of inside.present.items inside.samples.items in
    blank c.len-len.result inside.start (omega (arith, c.len-len.ensures, inside.present.ok.0, c.self.invariant.within))
    (turned inside.start (cells_of c.clear_from.new.present.items inside.samples.items))
    (ap (turned inside.start) (c.clear_from.ensures.cells
    ∙ emptied_all c.len-len.result cells (omega (arith, many, c.len-len.ensures, inside.present.ok.0))))

pub returns-clause-long : goal.returns-clause-long
returns-clause-long g c =
    let inside = c.self.inside in
    let ps = c.clear_from.new.present.items in
    let ss = inside.samples.items in
    let long = c.clear_from.ensures.long in
    ring_long inside.start ps ss (turned inside.start (cells_of ps ss)) (record {
      alike = c.self.invariant.alike ∙ sym long;
      within = omega (arith, long, c.self.invariant.within);
      most = omega (arith, long, c.self.invariant.most);
    }) (λ i. turned inside.start (cells_of ps ss))
    ∙ long
    ∙ sym (ring_long inside.start inside.present.items ss c.args.self.now c.self.invariant c.self.view_is)
