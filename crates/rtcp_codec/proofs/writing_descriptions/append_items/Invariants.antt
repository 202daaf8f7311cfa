-- What was written and what is left make the whole, and the capacity suffices for it.
use Rattle.std.proofs.Common.{◌≡◌, ◌+◌, ◌^◌, ◌<◌, ◌≤◌, ◌++◌, length, map, drop, vec_len, vec_capacity}
use Rattle.std.specs.List.{flat_map, AllByRecursion}
use Rattle.rtcp_codec.specs.Description.{item_octets, TextsFit}
use Rattle.rtcp_codec.specs.View.{item_of}
use Rattle.rtcp_codec.proofs.writing_descriptions.append_items.Given as goal

abbrev pub invariant-loop-item : goal.invariant-loop-item
invariant-loop-item g l = record {
  items : l.out.items ++ flat_map item_octets (map item_of (drop l.item-index l.items))
      ≡ l.fn.out.items ++ flat_map item_octets (map item_of l.items);
  len : vec_len l.out + length (flat_map item_octets (map item_of (drop l.item-index l.items)))
      ≡ vec_len l.fn.out + length (flat_map item_octets (map item_of l.items));
  capacity : vec_capacity l.fn.out ≤ vec_capacity l.out;
  texts : TextsFit (map item_of (drop l.item-index l.items));
  kinds : AllByRecursion (λ i. i.kind < 2 ^ 8) (map item_of (drop l.item-index l.items))
      → AllByRecursion (λ i. i.kind < 2 ^ 8) (map item_of l.items);
}
