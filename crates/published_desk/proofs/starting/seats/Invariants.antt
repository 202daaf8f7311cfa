use Rattle.std.proofs.Common.{◌≡◌, ◌≤◌, length, All, vec_capacity}
use Rattle.left_right.specs.Sides.{view as sight_of}
use Rattle.published_desk.specs.inner.ReaderRule.{reader_of}
use Rattle.published_desk.proofs.starting.seats.Given as goal

abbrev pub invariant-loop : goal.invariant-loop
invariant-loop l =
    (l.writer.desk.shown ≡ l.fn.writer.desk.shown) × (l.writer.log ≡ l.fn.writer.log)
    × (l.writer.behind ≡ l.fn.writer.behind)
    × (sight_of l.writer.desk.place ≡ sight_of l.fn.writer.desk.place)
    × (length l.lanes.items ≡ l.counter) × (l.readers ≤ vec_capacity l.lanes) × (l.readers ≡ l.fn.readers)
    × All (λ r. r ≡ reader_of l.fn.notice (sight_of l.fn.writer.desk.place)) l.lanes.items
