-- The blocks so far stand before the rest, which has all the others.
use Rattle.std.proofs.Common.{◌≡◌, ◌+◌, ◌*◌, ◌≤◌, ◌++◌, length}
use Rattle.std.specs.List.{flat_map, AllByRecursion}
use Rattle.rtcp_codec.specs.Report.{block_octets}
use Rattle.rtcp_codec.specs.inner.Reading.{IsSoundBlock}
use Rattle.rtcp_codec.proofs.reading_reports.blocks_from.Given as goal

abbrev pub invariant-loop : goal.invariant-loop
invariant-loop g l = record {
  count : length l.blocks.items ≡ l.counter;
  fits : AllByRecursion IsSoundBlock l.blocks.items;
  parts : l.octets ≡ flat_map block_octets l.blocks.items ++ l.rest;
  enough : 24 * l.count ≤ 24 * l.counter + length l.rest;
}
