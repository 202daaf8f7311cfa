-- The edits that carry commands out. No public clause cites them.
use Rattle.std.specs.Prelude.{ℕ, ◌+◌, Bool, not, List, [], ◌∷◌, map, filter, length, nat_eq, Option, Some, None}
use Rattle.std.specs.Prelude.{if◌then◌else◌}
use Rattle.desk_rows.specs.declared.row.Row.{Row}
use Rattle.desk_rows.specs.declared.row.Member.{Member}
use Rattle.desk_rows.specs.declared.row.Row.TheVariants as rows
use Rattle.desk_rows.specs.declared.edit.Placed.{Placed}
use Rattle.desk_rows.specs.Row.{key_of, names}
use Rattle.desk_rows.specs.Edit.{EditOf, PartOf, ReplacedOf}
use Rattle.desk_rows.specs.Desk.{Desk, row_at, are_together}
use Rattle.desk_edit.specs.declared.command.Form.{Form}
use Rattle.desk_edit.specs.declared.command.Form.TheVariants.{Put, Remove, Move}
use Rattle.desk_edit.specs.Depends.{goes_with}
use Rattle.desk_edit.specs.Commands.{with_member_in}

-- no rows
abbrev pub no_part : PartOf
no_part = record { members = []; others = [] }

-- no row in place of another
abbrev pub none_replaced : ReplacedOf
none_replaced = record { old = []; new = [] }

-- puts a row that is no member's, and nothing else
abbrev pub puts_other : Row → EditOf
puts_other r = record { taken = no_part; put = record { members = []; others = r ∷ [] }; replaced = none_replaced }

-- puts a member at this place, and nothing else
abbrev pub puts_member : ℕ → Member → EditOf
puts_member place m =
    record {
      taken = no_part;
      put = record { members = record { place = place; row = m } ∷ []; others = [] };
      replaced = none_replaced;
    }

-- puts the second row in place of the first, and nothing else
abbrev pub replaces : Row → Row → EditOf
replaces old new = record { taken = no_part; put = no_part; replaced = record { old = old ∷ []; new = new ∷ [] } }

-- a row is put in place of the one that there is of its key
abbrev pub puts_in_place : Option Row → Row → EditOf
puts_in_place None r = puts_other r
puts_in_place (Some old) r = replaces old r

-- puts a row
abbrev pub puts : Desk → Row → EditOf
puts d (rows.Member m) = puts_member (length d.members) m
puts d r = puts_in_place (row_at d (key_of r)) r

-- the members that pass, with their places, which count from n
abbrev pub placed_from : ℕ → (Member → Bool) → List Member → List Placed
placed_from n p [] = []
placed_from n p (m ∷ ms) =
    if p m then record { place = n; row = m } ∷ placed_from (n + 1) p ms else placed_from (n + 1) p ms

-- takes the rows that pass
abbrev pub takes_all : Desk → (Row → Bool) → EditOf
takes_all d goes =
    record {
      taken = record { members = placed_from 0 (λ m. goes (rows.Member m)) d.members; others = filter goes d.others };
      put = no_part;
      replaced = none_replaced;
    }

-- a member with its place, in this room
abbrev pub placed_in : ℕ → Placed → Placed
placed_in room p = record { place = p.place; row = record p.row { room = room } }

-- puts the member into the room, and takes the rows whose two sides are then in different rooms
abbrev pub moves_member : Desk → ℕ → ℕ → EditOf
moves_member d member room = record {
  taken =
      record {
        members = placed_from 0 (λ m. nat_eq m.member member) d.members;
        others = filter (λ r. not (are_together (with_member_in d member room) (names r))) d.others;
      };
  put = record { members = map (placed_in room) (placed_from 0 (λ m. nat_eq m.member member) d.members); others = [] };
  replaced = none_replaced;
}

-- the edit that carries out on this desk what a command does to rows
unfoldable pub edit_for : Desk → Form → EditOf
edit_for d (Put r) = puts d r
edit_for d (Remove key) = takes_all d (goes_with d key)
edit_for d (Move member room) = moves_member d member room
