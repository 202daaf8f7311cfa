-- How deep rows stand over one another. No public clause cites this.
use Rattle.std.specs.Prelude.{ℕ, Bool, true, false, nat_lt, List, [], ◌∷◌, Option, None, Some}
use Rattle.desk_rows.specs.declared.row.Row.{Row}
use Rattle.desk_rows.specs.declared.row.Row.TheVariants.{Source}
use Rattle.desk_rows.specs.declared.row.Media.TheVariants.{Audio}
use Rattle.desk_rows.specs.declared.key.Key.{Key}
use Rattle.desk_rows.specs.declared.key.Kind.{Kind}
use Rattle.desk_rows.specs.declared.key.Kind.TheVariants as kinds
use Rattle.desk_rows.specs.Row.{kind_of, same_media}

-- how many rows there can be below a row of a kind, each named by the one above it
abbrev pub level : Kind → ℕ
level kinds.Room = 0
level kinds.Member = 1
level kinds.Source = 2
level kinds.Slot = 2
level kinds.Sub = 3
level kinds.Mute = 3
level kinds.Gain = 3
level kinds.Pin = 3
level kinds.Floor = 3

-- whether a row with this name may stand above that of a key
abbrev pub is_above : Key → Key → Bool
is_above name key = nat_lt (level (kind_of key)) (level (kind_of name))

-- whether rows of a kind can go with a row of another: the one stands on the other, directly or through others, or is
-- it
abbrev pub can_go : Kind → Kind → Bool
can_go kind kinds.Room = true
can_go kinds.Room kinds.Member = false
can_go kind kinds.Member = true
can_go kinds.Source kinds.Source = true
can_go kinds.Sub kinds.Source = true
can_go kinds.Mute kinds.Source = true
can_go kinds.Gain kinds.Source = true
can_go kinds.Pin kinds.Source = true
can_go kind kinds.Source = false
can_go kinds.Slot kinds.Slot = true
can_go kinds.Sub kinds.Slot = true
can_go kind kinds.Slot = false
can_go kind kinds.Sub = true
can_go kind kinds.Mute = true
can_go kind kinds.Gain = true
can_go kind kinds.Pin = true
can_go kind kinds.Floor = true

-- the row that was found, if there is one
abbrev pub found_list : Option Row → List Row
found_list None = []
found_list (Some r) = r ∷ []

-- a source of audio
abbrev pub is_sound : Row → Bool
is_sound (Source s) = same_media s.media Audio
is_sound _ = false
