use Rattle.std.proofs.Common.{◌≡◌, length, map, take}
use Rattle.desk_text.specs.Values.{field_of, of_row}
use Rattle.desk_text.proofs.shaping.fields.Given as goal

-- the fields so far
abbrev pub invariant-loop-value : goal.invariant-loop-value
invariant-loop-value l = record {
  count : length l.fields.items ≡ l.value-index;
  fields : l.fields.items ≡ map field_of (map of_row (take l.value-index l.values));
}
