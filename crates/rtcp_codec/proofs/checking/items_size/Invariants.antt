-- The size so far and that of what is left make the whole, and the texts so far fit.
use Rattle.std.proofs.Common.{◌≡◌, ◌+◌, ◌≤◌, length, map, drop}
use Rattle.std.specs.List.{flat_map}
use Rattle.rtcp_codec.specs.Description.{item_octets, TextsFit}
use Rattle.rtcp_codec.specs.View.{item_of}
use Rattle.rtcp_codec.specs.WriteFault.{most_octets}
use Rattle.rtcp_codec.proofs.checking.items_size.Given as goal

abbrev pub invariant-loop-item : goal.invariant-loop-item
invariant-loop-item g l = record {
  size : l.size + length (flat_map item_octets (map item_of (drop l.item-index l.items)))
      ≡ length (flat_map item_octets (map item_of l.items));
  most : l.size ≤ most_octets;
  back : TextsFit (map item_of l.items) → TextsFit (map item_of (drop l.item-index l.items));
  texts : TextsFit (map item_of (drop l.item-index l.items)) → TextsFit (map item_of l.items);
}
