-- Items stand before the rest, and what follows them stands in the rest.
use Rattle.std.proofs.Common.{◌≡◌, ◌++◌, List, length}
use Rattle.std.specs.List.{flat_map, AllByRecursion}
use Rattle.rtcp_codec.specs.Description.{Item, item_octets, FitsItem}
use Rattle.rtcp_codec.specs.inner.Reading.{HasItems}
use Rattle.rtcp_codec.proofs.judging_descriptions.behind_items.Given as goal

abbrev pub invariant-loop-rest : goal.invariant-loop-rest
invariant-loop-rest l = record {
  parts : (items : List Item) × AllByRecursion FitsItem items × (l.octets ≡ flat_map item_octets items ++ l.rest);
  whole : HasItems l.octets → HasItems l.rest;
}

abbrev pub decreases-loop-rest : goal.decreases-loop-rest
decreases-loop-rest l = length l.rest
