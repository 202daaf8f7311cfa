-- What is there and what is left make the whole, and the capacity suffices for what is left.
use Rattle.std.proofs.Common.{◌≡◌, ◌+◌, ◌≤◌, ◌++◌, Some, length, map, vec_len, vec_capacity}
use Rattle.std.specs.Vec.Iter.{into_iter_items}
use Rattle.bridge_core.specs.Sent.{sent_of}
use Rattle.bridge_core.specs.Lanes.{goes}
use Rattle.bridge_core.proofs.video.all_again.Given as goal

abbrev pub invariant-loop-entry : goal.invariant-loop-entry
invariant-loop-entry g l =
    let rest = into_iter_items l.entry-iterator in
    let sent = goes l.ssrc (Some l.version) in
    record {
      items : map sent_of l.out.items ++ map sent rest ≡ map sent l.fn.entries.items;
      fits : vec_len l.out + length rest ≤ vec_capacity l.out;
    }
