use Rattle.std.proofs.Common.{arith}
use Rattle.lane_wire.proofs.Places.{later_more}
use Rattle.lane_wire.proofs.kept_streams.older.Goals as goal

pub returns-then-last-so_far-clause-oldest : goal.returns-then-last-so_far-clause-oldest
returns-then-last-so_far-clause-oldest c =
    let last = c.last_at-last.result in
    later_more c.args.streams.now.entries c.args.place c.args.so_far.1 last last c.requires.oldest
    c.last_at-last.ensures (omega (arith, c.if-last-so_far.true)) (omega arith)

pub returns-else-last-so_far-clause-oldest : goal.returns-else-last-so_far-clause-oldest
returns-else-last-so_far-clause-oldest c =
    let low = c.args.so_far.1 in
    later_more c.args.streams.now.entries c.args.place low c.last_at-last.result low c.requires.oldest
    c.last_at-last.ensures (omega arith) (omega (arith, c.if-last-so_far.false))
