use Rattle.std.specs.Prelude.{◌≡◌, ◌+◌, ◌<◌, ◌^◌}
use Rattle.desk_rows.specs.laws.Words.{length, put_within}
use Rattle.reversible_rows.proofs.judging.places.can_be_put.Given as goal

abbrev pub invariant-loop-first : goal.invariant-loop-first
invariant-loop-first l = record {
  so_far : put_within l.fn.start l.fn.placed ≡ put_within l.end l.rest;
  fits : l.end + length l.rest < 2 ^ 64;
}

abbrev pub decreases-loop-first : goal.decreases-loop-first
decreases-loop-first l = length l.rest
