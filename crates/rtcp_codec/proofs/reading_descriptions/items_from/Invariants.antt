-- The items so far stand before the rest, and what follows them stands in the rest.
use Rattle.std.proofs.Common.{◌≡◌, ◌++◌, length, map}
use Rattle.std.specs.List.{flat_map, AllByRecursion}
use Rattle.rtcp_codec.specs.Description.{item_octets, FitsItem}
use Rattle.rtcp_codec.specs.inner.Reading.{HasItems}
use Rattle.rtcp_codec.specs.View.{item_of}
use Rattle.rtcp_codec.proofs.reading_descriptions.items_from.Given as goal

abbrev pub invariant-loop-rest : goal.invariant-loop-rest
invariant-loop-rest g l = record {
  fits : AllByRecursion FitsItem (map item_of l.items.items);
  parts : l.octets ≡ flat_map item_octets (map item_of l.items.items) ++ l.rest;
  whole : HasItems l.rest;
}

abbrev pub decreases-loop-rest : goal.decreases-loop-rest
decreases-loop-rest g l = length l.rest
