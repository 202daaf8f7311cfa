use Rattle.std.proofs.Common.{◌≡◌, length, inr, arith}
use Rattle.lane_wire.specs.Streams.{most_streams}
use Rattle.lane_wire.proofs.Places.{forgets}
use Rattle.lane_wire.proofs.kept_streams.make_space.Goals as goal

pub returns-in-Some-clause-space : goal.returns-in-Some-clause-space
returns-in-Some-clause-space c =
    let es = c.args.streams.now.entries in
    let oldest = c.oldest-place in
    let full : length es ≡ most_streams = omega (arith, c.len.ensures.len, c.if-len-ge-MOST_STREAMS.true, c.requires) in
    inr (forgets es _ oldest.result.0 oldest.result.1 oldest.ensures.found oldest.ensures.oldest full
    c.shift_remove_index.ensures.entries)
