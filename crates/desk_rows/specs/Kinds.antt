-- Kinds of row.
use Rattle.std.specs.Prelude.{ℕ, Bool, List, [], ◌∷◌, nat_eq}
use Rattle.desk_rows.specs.declared.row.Row.{Row}
use Rattle.desk_rows.specs.declared.key.Kind.{Kind}
use Rattle.desk_rows.specs.declared.key.Kind.TheVariants as kinds
use Rattle.desk_rows.specs.Limits.{room_limit, member_limit, source_limit, slot_limit, gain_limit}
use Rattle.desk_rows.specs.Row.{rank, kind_of, key_of}

-- whether a row is of a kind
abbrev pub is_of : Kind → Row → Bool
is_of kind r = nat_eq (rank (kind_of (key_of r))) (rank kind)

-- how many rows of a kind there may be (own)
abbrev pub limits : List (Kind × ℕ)
limits =
    (kinds.Room, room_limit)
    ∷ (kinds.Member, member_limit)
    ∷ (kinds.Source, source_limit)
    ∷ (kinds.Slot, slot_limit)
    ∷ (kinds.Gain, gain_limit)
    ∷ []
