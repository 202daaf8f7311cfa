-- What is left can be kept, and with it the window is as it is to be.
use Rattle.std.proofs.Common.{◌≡◌, ◌≤◌, ◌++◌, length}
use Rattle.std.specs.Vec.Iter.{into_iter_items}
use Rattle.retransmit.specs.Window.{window_size, latest}
use Rattle.forward_rewrite.specs.inner.Row.{MayGoOn}
use Rattle.forward_rewrite.proofs.stream.push_sent.Given as goal

abbrev pub invariant-loop-entry : goal.invariant-loop-entry
invariant-loop-entry g l =
    let rest = into_iter_items l.entry-iterator in
    record {
      few : length l.window ≤ window_size;
      goes_on : MayGoOn l.window rest;
      kept : latest window_size (l.window ++ rest) ≡ latest window_size (l.fn.window ++ l.fn.entries.items);
    }
