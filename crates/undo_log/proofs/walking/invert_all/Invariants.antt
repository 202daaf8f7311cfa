use Rattle.std.proofs.Common.{◌≡◌, ◌-◌, ◌++◌, take, drop, length, vec_len}
use Rattle.undo_log.specs.Lists.{inverses}
use Rattle.undo_log.proofs.walking.invert_all.Given as goal

abbrev pub invariant-loop-place : goal.invariant-loop-place
invariant-loop-place g l = record {
  len : vec_len l.items ≡ vec_len l.fn.items;
  so_far : l.items.items
      ≡ inverses g.S.Reversible.inverse (drop (length l.fn.items.items - l.place) l.fn.items.items)
      ++ take (length l.fn.items.items - l.place) l.fn.items.items;
}
