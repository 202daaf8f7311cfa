-- Edits of worked calls, by the lists that are not empty.
use Rattle.std.specs.Prelude.{ℕ, List, [], ◌∷◌}
use Rattle.desk_rows.specs.declared.row.Member.{Member}
use Rattle.desk_rows.specs.declared.row.Row.{Row}
use Rattle.desk_rows.specs.declared.edit.Placed.{Placed}
use Rattle.desk_rows.specs.Edit.{EditOf, PartOf, ReplacedOf}
use Rattle.worked_desk.specs.Rows.{member, room, video, audio, slot}

-- the member's row at this place, from 0
abbrev pub at : ℕ → Member → Placed
at place member = record { place = place; row = member }

abbrev pub no_part : PartOf
no_part = record { members = []; others = [] }

abbrev pub none_replaced : ReplacedOf
none_replaced = record { old = []; new = [] }

abbrev pub takes : List Placed → List Row → EditOf
takes members others =
    record { taken = record { members = members; others = others }; put = no_part; replaced = none_replaced }

abbrev pub puts : List Placed → List Row → EditOf
puts members others =
    record { taken = no_part; put = record { members = members; others = others }; replaced = none_replaced }

abbrev pub replaces : List Row → List Row → EditOf
replaces old new = record { taken = no_part; put = no_part; replaced = record { old = old; new = new } }

-- one member's row in place of another
abbrev pub changes : Placed → Placed → EditOf
changes before after = record {
  taken = record { members = before ∷ []; others = [] };
  put = record { members = after ∷ []; others = [] };
  replaced = none_replaced;
}

-- other rows that go, and other rows that come
abbrev pub trades : List Row → List Row → EditOf
trades taken put = record {
  taken = record { members = []; others = taken };
  put = record { members = []; others = put };
  replaced = none_replaced;
}

abbrev pub takes_and_replaces : List Row → List Row → List Row → EditOf
takes_and_replaces taken old new = record {
  taken = record { members = []; others = taken };
  put = no_part;
  replaced = record { old = old; new = new };
}

-- member 12, who moves to room 1 and sends audio there
abbrev pub brings_audio : EditOf
brings_audio = record {
  taken = record { members = at 2 (member 12 2 5002 9003) ∷ []; others = [] };
  put = record { members = at 2 (member 12 1 5002 9003) ∷ []; others = audio 165 12 ∷ [] };
  replaced = none_replaced;
}

-- member 12 goes with its rows, member 13 comes first with its room, and slot 501 changes its index
abbrev pub six_lists : EditOf
six_lists = record {
  taken = record { members = at 2 (member 12 2 5002 9003) ∷ []; others = video 103 12 ∷ slot 502 12 0 ∷ [] };
  put = record { members = at 0 (member 13 3 5003 9004) ∷ []; others = room 3 ∷ [] };
  replaced = record { old = slot 501 11 0 ∷ []; new = slot 501 11 3 ∷ [] };
}
