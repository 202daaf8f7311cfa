-- A list of edits as one edit (own).
use Rattle.std.specs.Prelude.{Bool, List, map, reverse, fold, if◌then◌else◌}
use Rattle.undo_log.specs.Timeline.{all_fit}

-- the state after all of the list, or the state as it is, where one of them doesn't fit after those before it
abbrev pub after_all : {S E : Type 0} → (S → E → Bool) → (S → E → S) → S → List E → S
after_all fits after x es = if all_fit fits after x es then fold after x es else x

-- the inverses, the last one first
abbrev pub inverses : {E : Type 0} → (E → E) → List E → List E
inverses inverse es = reverse (map inverse es)
