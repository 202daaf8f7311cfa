-- Members that are picked, and one that moves. No public clause cites this.
use Rattle.std.specs.Prelude.{ℕ, Bool, false, nat_eq, Option, Some}
use Rattle.desk_rows.specs.declared.row.Row.{Row}
use Rattle.desk_rows.specs.declared.row.Member.{Member as MemberRow}
use Rattle.desk_rows.specs.declared.row.Row.TheVariants.{Member}
use Rattle.desk_rows.specs.declared.key.Key.{Key}
use Rattle.desk_rows.specs.declared.key.Key.TheVariants as keys
use Rattle.desk_edit.specs.declared.picking.Picked.{Picked}
use Rattle.desk_edit.specs.declared.picking.Picked.TheVariants.{In, Only, Nobody}
use Rattle.desk_edit.specs.Commands.{into_room}

-- a row that was found, a member of this number in this room
abbrev pub row_into_room : ℕ → ℕ → Option Row → Option Row
row_into_room member room (Some (Member m)) = Some (Member (into_room member room m))
row_into_room member room found = found

-- whether a member is picked
abbrev pub picks : Picked → MemberRow → Bool
picks (In room) m = nat_eq m.room room
picks (Only member) m = nat_eq m.member member
picks Nobody m = false

-- the members that go with the row of a key
abbrev pub picked_with : Key → Picked
picked_with (keys.Room room) = In room
picked_with (keys.Member member) = Only member
picked_with _ = Nobody
