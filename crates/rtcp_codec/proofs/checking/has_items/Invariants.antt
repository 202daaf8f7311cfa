-- Each item so far is told.
use Rattle.std.proofs.Common.{drop, map}
use Rattle.rtcp_codec.specs.View.{item_of}
use Rattle.rtcp_codec.specs.Description.{ItemsTold}
use Rattle.rtcp_codec.proofs.checking.has_items.Given as goal

abbrev pub invariant-loop-item : goal.invariant-loop-item
invariant-loop-item g l = record {
  good : ItemsTold (map item_of (drop l.item-index l.items)) → ItemsTold (map item_of l.items);
  back : ItemsTold (map item_of l.items) → ItemsTold (map item_of (drop l.item-index l.items));
}
