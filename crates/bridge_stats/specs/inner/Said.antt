-- The parts of lines, without where their words lie in memory.
use Rattle.std.specs.Prelude.{ℕ, List}
use Rattle.bridge_stats.specs.declared.appending.LineField.{LineField}
use Rattle.bridge_stats.specs.declared.appending.LineField.TheVariants.{Words, Number, Signed, Place}
use Rattle.bridge_stats.specs.Text.{LinePart, words, number, signed, place, next_text}

abbrev pub said : LineField → LinePart
said (Words text) = words text.now
said (Number n) = number n
said (Signed n) = signed n
said (Place a) = place a

-- a part with a space before it
abbrev pub next_said : LineField → List ℕ
next_said field = next_text (said field)
