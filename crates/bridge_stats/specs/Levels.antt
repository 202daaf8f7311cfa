-- Of which sources a level is told, and the lines that tell it (own).
use Rattle.std.specs.Prelude.{ℕ, Bool, ◌&&◌, nat_lt, if◌then◌else◌, List, [], ◌∷◌, ◌++◌, codes}
use Rattle.std.specs.List.{flat_map}
use Rattle.bridge_stats.specs.declared.rows.SourceRow.{SourceRow}
use Rattle.bridge_stats.specs.declared.shown.StatsShown.{StatsShown}
use Rattle.bridge_stats.specs.Shown.{sender_address}
use Rattle.bridge_stats.specs.Text.{number, place, line_text}

-- A level is told of a source for less than so many milliseconds after its last datagram.
abbrev pub recent_ms : ℕ
recent_ms = 1000

-- the level of a source is told: a sample of its sound has come, and a datagram of it has come lately
abbrev pub is_told : SourceRow → Bool
is_told row = nat_lt 0 row.numbers.samples && nat_lt row.ago recent_ms

-- a source: its address and SSRC, how many samples of its sound have come, and their energy
abbrev pub level_line : SourceRow → List ℕ
level_line row =
    line_text (codes "level")
    (place (sender_address row.sender) ∷ number row.sender.ssrc ∷ number row.numbers.samples
    ∷ number row.numbers.energy ∷ [])

-- the line of a source's level, if that is told
abbrev pub level_text : SourceRow → List ℕ
level_text row = if is_told row then level_line row else []

-- the levels of all sources of which one is told, and an end
abbrev pub levels_text : StatsShown → List ℕ
levels_text shown = flat_map level_text shown.sources.items ++ codes "end\n"
