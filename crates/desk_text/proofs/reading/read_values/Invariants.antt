use Rattle.std.proofs.Common.{◌≡◌, ◌+◌, ◌≤◌, length, map, take, drop}
use Rattle.desk_text.specs.Words.{words_in, size_of}
use Rattle.desk_text.specs.Values.{field_of, values_of}
use Rattle.desk_text.proofs.ValueSteps.{behind}
use Rattle.desk_text.proofs.reading.read_values.Given as goal

-- the values so far stand before those of the words that are left
abbrev pub invariant-loop-field : goal.invariant-loop-field
invariant-loop-field l = record {
  place : l.at ≡ l.fn.place + l.field-index;
  count : length l.values.items ≡ l.field-index;
  shape : map field_of l.values.items ≡ take l.field-index l.shape;
  values : values_of l.fn.place l.shape (words_in l.fn.words)
      ≡ behind l.values.items (values_of l.at (drop l.field-index l.shape) (words_in l.rest));
  shorter : size_of l.rest ≤ size_of l.fn.words;
}
