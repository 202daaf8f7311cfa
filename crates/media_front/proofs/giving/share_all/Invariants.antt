-- What is shared and what is left make the whole, and the capacity suffices for what is left.
use Rattle.std.proofs.Common.{◌≡◌, ◌+◌, ◌≤◌, ◌++◌, length, map, vec_len, vec_capacity}
use Rattle.std.specs.Vec.Iter.{into_iter_items}
use Rattle.media_items.specs.Inputs.{input_of}
use Rattle.media_front.specs.inner.Shares.{input_shared}
use Rattle.media_front.proofs.giving.share_all.Given as goal

abbrev pub invariant-loop-item : goal.invariant-loop-item
invariant-loop-item l =
    let rest = into_iter_items l.item-iterator in
    record {
      inputs : map input_shared l.shared.items ++ map input_of rest ≡ map input_of l.fn.items.items;
      fits : vec_len l.shared + length rest ≤ vec_capacity l.shared;
    }
