use Rattle.std.proofs.Common.{◌≡◌, Some, arith}
use Rattle.std.proofs.lemmas.List.Elements.{All-pop}
use Rattle.published_desk.specs.Published.{ReaderOf, new_reader}
use Rattle.x_tests_lanes.proofs.Begun.{is_new, is_read, begun_more, read_more, count_more, are_new}
use Rattle.x_tests_lanes.proofs.lanes.lanes.Goals as goal

pub loop-lane-preserved : goal.loop-lane-preserved
loop-lane-preserved g c =
    let h = g.H.DeskBrand in
    let inv = c.loop-lane.invariant in
    let many = c.len-many.result in
    let place = c.loop-lane.lane in
    let old = c.loop-lane.lanes.items in
    let lane = c.new.result in
    let reader = c.in-Some.reader in
    let state = c.in_ok-state.state in
    let popped =
    All-pop (λ (r : ReaderOf). r ≡ new_reader h.publisher h.start) c.loop-lane.readers.items c.pop.new.self.items
    (Some reader) c.in-Some.ensures.items inv.readers in
    let at = c.in_ok-state.ensures in
    let one = is_new lane state reader many place c.new.ensures at.none at.place at.who in
    let read = is_read lane state reader h.publisher h.start c.new.ensures popped.1 in
    let items = c.in_ok-push.ensures.items in
    record {
      readers = popped.0;
      begun = begun_more many place old c.push.new.self.items lane items inv.begun inv.count one;
      publisher = read_more h.publisher old c.push.new.self.items lane items inv.publisher read;
      count = count_more place old c.push.new.self.items lane items inv.count;
    }

pub returns-clause-new : goal.returns-clause-new
returns-clause-new g c =
    let inv = c.loop-lane.invariant in
    are_new c.len-many.result c.loop-lane.lanes.items inv.begun
    (omega (arith, inv.count, c.loop-lane-test.false, c.loop-lane.auto.lane-end))
