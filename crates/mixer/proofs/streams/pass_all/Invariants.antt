-- The streams so far have passed the tick.
use Rattle.std.proofs.Common.{◌≡◌, length}
use Rattle.indexmap.specs.IndexMap.{spare}
use Rattle.mixer.specs.inner.Rooms.{IsRate}
use Rattle.mixer.specs.inner.Ready.{Partly}
use Rattle.mixer.proofs.streams.pass_all.Given as goal

abbrev pub invariant-loop-i : goal.invariant-loop-i
invariant-loop-i g l = record {
  partly : Partly l.rows l.moment l.i l.fn.streams.entries l.streams.entries;
  long : length l.streams.entries ≡ length l.fn.streams.entries;
  spare : spare l.streams ≡ spare l.fn.streams;
  last : IsRate l.rows l.last;
}
