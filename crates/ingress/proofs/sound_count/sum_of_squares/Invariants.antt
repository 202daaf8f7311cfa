-- The sum so far, and how small it is.
use Rattle.std.proofs.Common.{◌≡◌, ◌*◌, ◌^◌, ◌≤◌, take}
use Rattle.std.specs.Prelude.{sum_by}
use Rattle.ingress.specs.Energy.{square}
use Rattle.ingress.proofs.sound_count.sum_of_squares.Given as goal

abbrev pub invariant-loop-sample : goal.invariant-loop-sample
invariant-loop-sample l = record {
  is_sum : l.sum ≡ sum_by square (take l.sample-index l.samples);
  is_small : l.sum ≤ l.sample-index * 2 ^ 30;
}
