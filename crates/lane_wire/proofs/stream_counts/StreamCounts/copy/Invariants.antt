use Rattle.std.proofs.Common.{◌≡◌, ◌++◌, map, drop}
use Rattle.lane_wire.specs.Streams.{numbers_in}
use Rattle.lane_wire.proofs.stream_counts.StreamCounts.copy.Given as goal

-- what was copied so far, and what is to come
abbrev pub invariant-loop-ssrc : goal.invariant-loop-ssrc
invariant-loop-ssrc l =
    l.out.items ++ map numbers_in l.ssrc-iterator ≡ map numbers_in (drop l.skipped l.self.entries)
