-- What is there and what is left make the whole, and the capacity suffices for what is left.
use Rattle.std.proofs.Common.{◌≡◌, ◌+◌, ◌≤◌, ◌++◌, length, map, vec_len, vec_capacity}
use Rattle.std.specs.Vec.Iter.{into_iter_items}
use Rattle.bridge_core.specs.Sent.{sent_of}
use Rattle.bridge_core.specs.inner.Parts.{mix_to}
use Rattle.bridge_core.proofs.audio.emit_mixes.Given as goal

abbrev pub invariant-loop-mix : goal.invariant-loop-mix
invariant-loop-mix g l =
    let rest = into_iter_items l.mix-iterator in
    let sent = mix_to l.stamp in
    record {
      items : map sent_of l.out.items ++ map sent rest ≡ map sent_of l.fn.out.items ++ map sent l.fn.mixes.items;
      fits : vec_len l.out + length rest ≤ vec_capacity l.out;
    }
