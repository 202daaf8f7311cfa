-- What is left leads to the same as all from the start, and the capacity suffices for it.
use Rattle.std.proofs.Common.{◌≡◌, ℕ, ◌+◌, ◌≤◌, ◌++◌, length, map, vec_len, vec_capacity}
use Rattle.std.specs.Vec.Iter.{into_iter_items}
use Rattle.indexmap.specs.IndexMap.{spare}
use Rattle.mixer.specs.Mixers.{mix_at}
use Rattle.mixer.specs.inner.Ready.{kept_after, sent_of}
use Rattle.mixer.proofs.streams.commit_all.Given as goal

abbrev pub invariant-loop-one : goal.invariant-loop-one
invariant-loop-one g l =
    let rest = into_iter_items l.one-iterator in
    record {
      streams : (ssrc : ℕ)
          → kept_after ssrc rest (mix_at ssrc l.streams.entries)
          ≡ kept_after ssrc l.fn.ready.items (mix_at ssrc l.fn.streams.entries);
      out : l.out.items ++ map sent_of rest ≡ l.fn.out.items ++ map sent_of l.fn.ready.items;
      capacity : length rest ≤ spare l.streams;
      out_capacity : vec_len l.out + length rest ≤ vec_capacity l.out;
    }
