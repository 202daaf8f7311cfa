-- What is there and what is left make the whole, and the capacity suffices for what is left.
use Rattle.std.proofs.Common.{◌≡◌, ◌+◌, ◌≤◌, ◌++◌, length, map, vec_len, vec_capacity}
use Rattle.std.specs.Vec.Iter.{into_iter_items}
use Rattle.media_items.specs.Inputs.{input_of}
use Rattle.ingress.specs.Media.{frames_from}
use Rattle.ingress.specs.inner.MediaPackets.{origin_in}
use Rattle.ingress.proofs.gating.put_frames.Given as goal

abbrev pub invariant-loop-frame : goal.invariant-loop-frame
invariant-loop-frame g l =
    let rest = into_iter_items l.frame-iterator in
    let items = frames_from (origin_in l.origin) l.moment l.epoch in
    record {
      items : map input_of l.items.items ++ items rest ≡ map input_of l.fn.items.items ++ items l.fn.frames.items;
      len : vec_len l.items + length rest ≡ vec_len l.fn.items + vec_len l.fn.frames;
      fits : vec_len l.items + length rest ≤ vec_capacity l.items;
      capacity : vec_capacity l.fn.items ≤ vec_capacity l.items;
    }
