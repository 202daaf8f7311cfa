-- The desk, and what makes it good.
use Rattle.std.specs.Prelude.{ℕ, Bool, true, false, ◌&&◌, not, List, [], ◌∷◌, ◌++◌, map, filter, count_by, nat_eq}
use Rattle.std.specs.Prelude.{nat_le, Option, None, Some}
use Rattle.std.specs.List.{find, list_any, list_all}
use Rattle.rtp_codec.specs.declared.address.Address.{Address}
use Rattle.rtp_codec.specs.Address.{same_address}
use Rattle.desk_rows.specs.declared.row.Member.{Member}
use Rattle.desk_rows.specs.declared.row.Row.{Row}
use Rattle.desk_rows.specs.declared.row.Row.TheVariants as rows
use Rattle.desk_rows.specs.declared.row.Media.TheVariants.{Audio}
use Rattle.desk_rows.specs.declared.key.Key.{Key}
use Rattle.desk_rows.specs.declared.key.Key.TheVariants as keys
use Rattle.desk_rows.specs.declared.key.Kind.{Kind}
use Rattle.desk_rows.specs.declared.key.Kind.TheVariants as kinds
use Rattle.desk_rows.specs.declared.claim.Claim.{Claim}
use Rattle.desk_rows.specs.declared.claim.Claim.TheVariants as claims
use Rattle.desk_rows.specs.Row.{has_key, names, wants, suits, is_in_range, claims_of, makes, same_media}
use Rattle.desk_rows.specs.Kinds.{is_of, limits}
use Rattle.desk_rows.specs.Order.{in_order, is_in}
use Rattle.desk_rows.specs.Limits.{room_audio_limit}

-- the members of all rooms in joining order, and the set of all other rows, listed in the one order of kinds and keys
pub record Desk : Type 0 where
  -- the SSRC under which the bridge itself speaks
  pub bridge_ssrc : ℕ
  pub members : List Member
  pub others : List Row

-- the desk without rows
abbrev pub blank : ℕ → Desk
blank bridge_ssrc = record { bridge_ssrc = bridge_ssrc; members = []; others = [] }

-- all rows
abbrev pub rows_of : Desk → List Row
rows_of d = map rows.Member d.members ++ d.others

-- the row with this key
abbrev pub row_at : Desk → Key → Option Row
row_at d key = find (has_key key) (rows_of d)

-- whether the desk has the row
abbrev pub holds : Desk → Row → Bool
holds d r = is_in (rows_of d) r

-- ---- kinds

-- the rows of a kind: members in joining order, all others in the order of their keys
abbrev pub rows_of_kind : Kind → Desk → List Row
rows_of_kind kind d = filter (is_of kind) (rows_of d)

-- how many rows of a kind there are
abbrev pub count_of : Kind → Desk → ℕ
count_of kind d = count_by (is_of kind) (rows_of d)

-- the numbers of a room's members in joining order
abbrev pub roster : Desk → ℕ → List ℕ
roster d room = map (λ m. m.member) (filter (λ m. nat_eq m.room room) d.members)

-- the member at this address, the first in joining order
abbrev pub member_at_address : Desk → Address → Option Member
member_at_address d address = find (λ m. same_address m.address address) d.members

-- ---- what makes a desk good

-- what each row names is there
abbrev pub is_named_there : Desk → Row → Bool
is_named_there d r = list_all (λ key. list_any (has_key key) (rows_of d)) (names r)

-- the bridge has its SSRC to itself
abbrev pub is_bridges : Desk → Claim → Bool
is_bridges d (claims.Key key) = false
is_bridges d (claims.Address address) = false
is_bridges d (claims.Ssrc ssrc) = nat_eq ssrc d.bridge_ssrc
is_bridges d (claims.Place member index) = false

-- no other row makes this claim, nor does the bridge
abbrev pub is_made_once : Desk → Claim → Bool
is_made_once d claim = nat_eq (count_by (makes claim) (rows_of d)) 1 && not (is_bridges d claim)

-- no other row makes a claim of this row, nor does the bridge
abbrev pub is_alone : Desk → Row → Bool
is_alone d r = list_all (is_made_once d) (claims_of r)

-- the room that a member is in
abbrev pub room_of_member : Option Row → Option ℕ
room_of_member (Some (rows.Member m)) = Some m.room
room_of_member _ = None

-- the room that a row is in: a source and a slot are in their member's
abbrev pub room_of : Desk → Row → Option ℕ
room_of d (rows.Room r) = Some r.room
room_of d (rows.Member m) = Some m.room
room_of d (rows.Source s) = room_of_member (row_at d (keys.Member s.member))
room_of d (rows.Slot s) = room_of_member (row_at d (keys.Member s.member))
room_of d (rows.Sub s) = None
room_of d (rows.Mute m) = None
room_of d (rows.Gain g) = None
room_of d (rows.Pin p) = None
room_of d (rows.Floor f) = None

-- the room that a row that was found is in
abbrev pub room_of_found : Desk → Option Row → Option ℕ
room_of_found d None = None
room_of_found d (Some r) = room_of d r

-- the room that the row of this key is in
abbrev pub room_at : Desk → Key → Option ℕ
room_at d key = room_of_found d (row_at d key)

-- the clock rate of a room that was found
abbrev pub rate_of_room : Option Row → Option ℕ
rate_of_room (Some (rows.Room r)) = Some r.rate
rate_of_room _ = None

-- both are in a room, and in one
abbrev pub same_room : Option ℕ → Option ℕ → Bool
same_room (Some a) (Some b) = nat_eq a b
same_room _ _ = false

-- what a row names is in one room
abbrev pub are_together : Desk → List Key → Bool
are_together d (a ∷ b ∷ []) = same_room (room_at d a) (room_at d b)
are_together d _ = true

-- each row that a row names is of the kind that it wants
abbrev pub all_suit : Desk → Row → Bool
all_suit d r = list_all (λ key. suits (wants r) (row_at d key)) (names r)

-- an audio source of a member of the room
abbrev pub is_audio_in : Desk → ℕ → Row → Bool
is_audio_in d room (rows.Source s) = same_media s.media Audio && same_room (room_of d (rows.Source s)) (Some room)
is_audio_in d room _ = false

-- a room has no more audio sources than it may
abbrev pub has_few_audio : Desk → Row → Bool
has_few_audio d (rows.Room r) = nat_le (count_by (is_audio_in d r.room) d.others) room_audio_limit
has_few_audio d (rows.Member m) = true
has_few_audio d (rows.Source s) = true
has_few_audio d (rows.Slot s) = true
has_few_audio d (rows.Sub s) = true
has_few_audio d (rows.Mute m) = true
has_few_audio d (rows.Gain g) = true
has_few_audio d (rows.Pin p) = true
has_few_audio d (rows.Floor f) = true

-- the rule of rows: values are in their ranges, a room has few audio sources, and what a row names is of the kind that
-- it wants and in one room
abbrev pub obeys : Desk → Row → Bool
obeys d r = (is_in_range r && has_few_audio d r) && (all_suit d r && are_together d (names r))

-- no table is over its limit; subs, mutes, pins and floors have the numbers of other rows, so there are no more of them
abbrev pub is_within_limits : Desk → Bool
is_within_limits d = list_all (λ limit. nat_le (count_of limit.0 d) limit.1) limits

-- the other rows are listed in order, and none of them is a member's
abbrev pub is_listed : Desk → Bool
is_listed d = in_order d.others && list_all (λ r. not (is_of kinds.Member r)) d.others

-- keys are distinct and nothing else is shared, what is named is there, and the rules and limits hold
unfoldable pub good : Desk → Bool
good d =
    (is_listed d && is_within_limits d)
    && (list_all (is_named_there d) (rows_of d)
    && (list_all (is_alone d) (rows_of d) && list_all (obeys d) (rows_of d)))
