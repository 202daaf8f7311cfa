use Rattle.std.proofs.Common.{◌≡◌, length, map, take}
use Rattle.desk_text.specs.Values.{in_row}
use Rattle.desk_text.proofs.value.in_rows.Given as goal

-- the values so far
abbrev pub invariant-loop-value : goal.invariant-loop-value
invariant-loop-value l = record {
  count : length l.row_values.items ≡ l.value-index;
  values : l.row_values.items ≡ map in_row (take l.value-index l.values);
}
