-- The command equations: what each command makes of a desk.
use Rattle.std.specs.Prelude.{ℕ, [], ◌∷◌, ◌++◌, not, map, filter, nat_eq, if◌then◌else◌}
use Rattle.desk_rows.specs.declared.row.Member.{Member}
use Rattle.desk_rows.specs.declared.row.Row.{Row}
use Rattle.desk_rows.specs.declared.row.Row.TheVariants as rows
use Rattle.desk_rows.specs.Row.{key_of, has_key, names}
use Rattle.desk_rows.specs.Order.{with_row}
use Rattle.desk_rows.specs.Desk.{Desk, are_together}
use Rattle.desk_edit.specs.declared.command.Command.{Command}
use Rattle.desk_edit.specs.declared.command.Form.{Form}
use Rattle.desk_edit.specs.declared.command.Form.TheVariants.{Put, Remove, Move}
use Rattle.desk_edit.specs.Forms.{form_of}
use Rattle.desk_edit.specs.Depends.{without}

-- the desk with this row: a member is the last of all, any other row is in place of that of its key, if there is one
abbrev pub with_put : Desk → Row → Desk
with_put d (rows.Member m) = record d { members = d.members ++ m ∷ [] }
with_put d r = record d { others = with_row r (filter (λ x. not (has_key (key_of r) x)) d.others) }

-- the member of this number in this room, any other as it is
abbrev pub into_room : ℕ → ℕ → Member → Member
into_room member room m = if nat_eq m.member member then record m { room = room } else m

-- the desk with the member in the room, at its place
abbrev pub with_member_in : Desk → ℕ → ℕ → Desk
with_member_in d member room = record d { members = map (into_room member room) d.members }

-- the desk with the member in the room, and without the rows whose two sides are then in different rooms
abbrev pub with_moved : Desk → ℕ → ℕ → Desk
with_moved d member room =
    record (with_member_in d member room)
    { others = filter (λ r. are_together (with_member_in d member room) (names r)) d.others }

-- the desk after what a command does to rows
abbrev pub desk_led : Desk → Form → Desk
desk_led d (Put r) = with_put d r
desk_led d (Remove key) = without d key
desk_led d (Move member room) = with_moved d member room

-- the desk after a command that is not refused
unfoldable pub desk_after : Desk → Command → Desk
desk_after d command = desk_led d (form_of command)
