-- Desks with as many rows of a kind as there may be, or one less.
use Rattle.std.specs.Prelude.{ℕ, zero, suc, ◌+◌, ◌%◌, List, [], ◌∷◌}
use Rattle.desk_rows.specs.declared.row.Member.{Member}
use Rattle.desk_rows.specs.Desk.{Desk}
use Rattle.worked_desk.specs.Rows.{member, room, audio}

-- so many in a row, from this number on
abbrev pub from_on : {A : Type 0} → (ℕ → A) → ℕ → ℕ → List A
from_on row number zero = []
from_on row number (suc n) = row number ∷ from_on row (number + 1) n

-- members of room 1 from number 10 on, at ports of their own
abbrev pub members_of : ℕ → List Member
members_of n = from_on (λ number. member number 1 number (10000 + number)) 10 n

-- rooms from number 1 on
abbrev pub of_rooms : ℕ → Desk
of_rooms n = record { bridge_ssrc = 1; members = []; others = from_on room 1 n }

-- members from number 10 on
abbrev pub of_members : ℕ → Desk
of_members n = record { bridge_ssrc = 1; members = members_of n; others = room 1 ∷ [] }

-- audio sources of the two members of room 1, from SSRC 101 on; member 12 is in room 2
abbrev pub of_audio : ℕ → Desk
of_audio n = record {
  bridge_ssrc = 1;
  members = member 10 1 5000 9001 ∷ member 11 1 5001 9002 ∷ member 12 2 5002 9003 ∷ [];
  others = room 1 ∷ room 2 ∷ from_on (λ ssrc. audio ssrc (10 + ssrc % 2)) 101 n;
}
