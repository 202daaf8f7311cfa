use Rattle.lane_wire.specs.inner.Places.{HasLast, AreLater}
use Rattle.lane_wire.proofs.kept_streams.oldest.Given as goal

-- the oldest of the streams so far
abbrev pub invariant-loop-place : goal.invariant-loop-place
invariant-loop-place l = record {
  found : HasLast l.oldest.0 l.oldest.1 l.streams.entries;
  oldest : AreLater l.place l.oldest.1 l.streams.entries;
}
