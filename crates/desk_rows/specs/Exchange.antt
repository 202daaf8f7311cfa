-- What an edit makes of a desk, and when it fits.
use Rattle.std.specs.Prelude.{Bool, ◌&&◌, if◌then◌else◌}
use Rattle.std.specs.List.{list_all}
use Rattle.desk_rows.specs.Order.{are_apart, have_same_keys, is_in, with_rows, without_rows}
use Rattle.desk_rows.specs.Places.{take_at, put_at, can_take, can_put, places_rise}
use Rattle.desk_rows.specs.Edit.{EditOf, outs, ins}
use Rattle.desk_rows.specs.Desk.{Desk, good}

-- the rows that go are there, at their places; those that come have places; all are listed in order, and a row is
-- replaced by one of its key
unfoldable pub is_apt : Desk → EditOf → Bool
is_apt d e =
    ((places_rise e.taken.members && can_take e.taken.members d.members)
    && (places_rise e.put.members && can_put e.put.members (take_at e.taken.members d.members)))
    && ((are_apart e.taken.others e.replaced.old && list_all (is_in d.others) (outs e))
    && (are_apart e.put.others e.replaced.new && have_same_keys e.replaced.old e.replaced.new))

-- the desk with the rows exchanged
unfoldable pub exchanged : Desk → EditOf → Desk
exchanged d e = record {
  bridge_ssrc = d.bridge_ssrc;
  members = put_at e.put.members (take_at e.taken.members d.members);
  others = with_rows (ins e) (without_rows (outs e) d.others);
}

-- a good desk stays good
unfoldable pub fits : Desk → EditOf → Bool
fits d e = good d && (is_apt d e && good (exchanged d e))

-- an edit that does not fit changes nothing
unfoldable pub after : Desk → EditOf → Desk
after d e = if fits d e then exchanged d e else d
