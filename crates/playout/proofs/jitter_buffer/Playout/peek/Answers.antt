use Rattle.std.proofs.Common.{◌≡◌, ◌≤◌, ap, subst, length, take, arith}
use Rattle.std.proofs.lemmas.List.{length-map, length-take}
use Rattle.playout.specs.inner.Cells.{heard}
use Rattle.playout.specs.inner.Holds.{PlayoutOf, Shows}
use Rattle.playout.proofs.Taken.{shows_by}
use Rattle.playout.proofs.jitter_buffer.Playout.peek.Goals as goal

pub returns : goal.returns
returns g c =
    let inside : PlayoutOf =
    record { begun = c.self.inside.begun; position = c.self.inside.position; cells = c.self.inside.ring } in
    let n = length c.args.out.now in
    let within : n ≤ length inside.cells =
    omega (arith, c.requires, ap (λ (h : PlayoutOf). length h.cells) c.self.view_is) in
    let all : n ≡ length c.read_first.new.out =
    omega (
      arith,
      ap length c.read_first.ensures.samples,
      length-map (take n inside.cells) heard,
      length-take n inside.cells,
      within,
    ) in
    subst (λ (h : PlayoutOf). Shows h c.read_first.new.out c.read_first.result) c.self.view_is
    (shows_by inside c.read_first.new.out c.read_first.result n c.self.invariant.blank all within
    c.read_first.ensures.samples c.read_first.ensures.count)
