-- A lane's first dropped item of a second (own).
use Rattle.std.specs.Prelude.{ℕ, ◌-◌, Bool, true, ◌&&◌, nat_lt, nat_le, if◌then◌else◌, Option, Some, None}
use Rattle.event_lines.specs.Lines.{second}
use Rattle.event_lines.specs.declared.drops.LaneDrops.{LaneDrops}

-- nothing was dropped
abbrev pub no_drops : LaneDrops
no_drops = record { seen = 0; told = None }

-- no drop was told in the second before a moment
abbrev pub is_quiet : ℕ → Option ℕ → Bool
is_quiet now None = true
is_quiet now (Some told) = nat_le second (now - told)

-- of so many items the last ones are the first of a second: they came since the last look, and none was told in it
abbrev pub is_first : ℕ → ℕ → LaneDrops → Bool
is_first items now drops = nat_lt drops.seen items && is_quiet now drops.told

-- what is known after a look at so many items
abbrev pub after_look : ℕ → ℕ → LaneDrops → LaneDrops
after_look items now drops = record {
  seen = items;
  told = if is_first items now drops then Some now else drops.told;
}
