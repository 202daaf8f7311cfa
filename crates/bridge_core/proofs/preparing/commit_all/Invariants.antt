-- What is left leads to the same as all from the start, each stream can go on with its part, and the capacity suffices
-- for it.
use Rattle.std.proofs.Common.{◌≡◌, ℕ, ◌≤◌, length}
use Rattle.std.specs.Vec.Iter.{into_iter_items}
use Rattle.indexmap.specs.IndexMap.{spare}
use Rattle.topology.specs.Receivers.{AreDistinct}
use Rattle.bridge_core.specs.LaneState.{stream_at}
use Rattle.bridge_core.specs.inner.Readies.{AllFit, receivers_of, kept_after}
use Rattle.bridge_core.proofs.preparing.commit_all.Given as goal

abbrev pub invariant-loop-one : goal.invariant-loop-one
invariant-loop-one g l =
    let rest = into_iter_items l.one-iterator in
    record {
      streams : (ssrc : ℕ)
          → kept_after ssrc rest (stream_at ssrc l.table.entries)
          ≡ kept_after ssrc l.fn.ready.items (stream_at ssrc l.fn.table.entries);
      apart : AreDistinct (receivers_of rest);
      fit : AllFit l.table.entries rest;
      capacity : length rest ≤ spare l.table;
    }
