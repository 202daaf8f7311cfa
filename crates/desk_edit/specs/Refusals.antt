-- When commands are refused, and by which refusal: the first that holds.
use Rattle.std.specs.Prelude.{ℕ, ◌+◌, Bool, true, false, not, ◌&&◌, ◌||◌, List, [], ◌∷◌, ◌++◌, map, nat_eq, nat_le}
use Rattle.std.specs.Prelude.{nat_lt, count_by, Option, Some, None, option_map, if◌then◌else◌}
use Rattle.std.specs.List.{list_any}
use Rattle.std.specs.Option.{option_and_then}
use Rattle.desk_rows.specs.declared.row.Row.{Row}
use Rattle.desk_rows.specs.declared.row.Row.TheVariants as rows
use Rattle.desk_rows.specs.declared.row.Media.TheVariants.{Audio}
use Rattle.desk_rows.specs.declared.key.Key.{Key}
use Rattle.desk_rows.specs.declared.key.Key.TheVariants as keys
use Rattle.desk_rows.specs.declared.key.Kind.{Kind}
use Rattle.desk_rows.specs.declared.key.Kind.TheVariants as kinds
use Rattle.desk_rows.specs.declared.claim.Claim.{Claim}
use Rattle.desk_rows.specs.declared.claim.Claim.TheVariants as claims
use Rattle.desk_rows.specs.Limits.{room_audio_limit}
use Rattle.desk_rows.specs.Kinds.{is_of, limits}
use Rattle.desk_rows.specs.Row.{kind_of, key_of, owner_of, has_key, names, other_claims, makes, same_media, is_in_range}
use Rattle.desk_rows.specs.Desk.{Desk, rows_of, row_at, holds, count_of, is_bridges, room_of_member, room_of}
use Rattle.desk_rows.specs.Desk.{rate_of_room, same_room, are_together, all_suit, is_audio_in}
use Rattle.desk_edit.specs.declared.command.Command.{Command}
use Rattle.desk_edit.specs.declared.command.Form.{Form}
use Rattle.desk_edit.specs.declared.command.Form.TheVariants.{Put, Remove, Move}
use Rattle.desk_edit.specs.declared.refusal.Refusal.{Refusal}
use Rattle.desk_edit.specs.declared.refusal.Reason.{Reason}
use Rattle.desk_edit.specs.declared.refusal.Reason.TheVariants as reasons
use Rattle.desk_edit.specs.Reasons.{refusal_for}
use Rattle.desk_edit.specs.declared.refusal.Table.{Table}
use Rattle.desk_edit.specs.declared.refusal.Table.TheVariants as tables
use Rattle.desk_edit.specs.Forms.{form_of}

-- the desk has a row of this key
abbrev pub has : Desk → Key → Bool
has d key = list_any (has_key key) (rows_of d)

-- some row makes this claim
abbrev pub is_claimed : Desk → Claim → Bool
is_claimed d claim = list_any (makes claim) (rows_of d)

-- ---- cases

-- the first of those whose case holds
abbrev pub first_case : {X : Type 0} → List (Bool × X) → Option X
first_case [] = None
first_case (c ∷ cs) = if c.0 then Some c.1 else first_case cs

-- the refusal if a row of this kind is missing
abbrev pub missing : Kind → Reason
missing kinds.Room = reasons.NoRoom
missing kinds.Member = reasons.NoMember
missing kinds.Source = reasons.NoSource
missing kinds.Slot = reasons.NoSlot
missing kinds.Sub = reasons.NotThere
missing kinds.Mute = reasons.NotThere
missing kinds.Gain = reasons.NotThere
missing kinds.Pin = reasons.NotThere
missing kinds.Floor = reasons.NotThere

-- these have to be there
abbrev pub lacking : Desk → List Key → List (Bool × Reason)
lacking d ks = map (λ key. (not (has d key), missing (kind_of key))) ks

-- ---- against a row that is put

-- a row that is put in place of the one of its key: no row names it
abbrev pub is_replaced : Row → Bool
is_replaced (rows.Room r) = false
is_replaced (rows.Member m) = false
is_replaced (rows.Source s) = false
is_replaced (rows.Slot s) = false
is_replaced (rows.Sub s) = true
is_replaced (rows.Mute m) = true
is_replaced (rows.Gain g) = true
is_replaced (rows.Pin p) = true
is_replaced (rows.Floor f) = true

-- an SSRC is claimed
abbrev pub is_ssrc : Claim → Bool
is_ssrc (claims.Key key) = false
is_ssrc (claims.Address address) = false
is_ssrc (claims.Ssrc s) = true
is_ssrc (claims.Place member index) = false

-- an address, or a slot's place among those of its member, that some row has
abbrev pub is_other_claimed : Desk → Claim → Bool
is_other_claimed d c = not (is_ssrc c) && is_claimed d c

-- a row of its key is there that it does not replace, or another has its address or its place
abbrev pub is_there : Desk → Row → Bool
is_there d r = (not (is_replaced r) && has d (key_of r)) || list_any (is_other_claimed d) (other_claims r)

-- an SSRC that the bridge, a source or an outgoing stream has
abbrev pub is_ssrc_taken : Desk → Claim → Bool
is_ssrc_taken d c = is_ssrc c && (is_bridges d c || is_claimed d c)

-- an SSRC of the row's is taken
abbrev pub ssrc_is_taken : Desk → Row → Bool
ssrc_is_taken d r = list_any (is_ssrc_taken d) (other_claims r)

-- it names a source of the other kind; a member names no source, and what it names is asked by its codec
abbrev pub is_wrong_kind : Desk → Row → Bool
is_wrong_kind d r = not (is_of kinds.Member r) && not (all_suit d r)

-- a source that it names is of the other kind; what it names is in two rooms; its SSRC is taken; a value is out of its
-- range; the same row is there
abbrev pub rule_cases : Desk → Row → List (Bool × Reason)
rule_cases d r =
    (is_wrong_kind d r, reasons.WrongKind)
    ∷ (not (are_together d (names r)), reasons.OtherRoom)
    ∷ (ssrc_is_taken d r, reasons.SsrcTaken)
    ∷ (not (is_in_range r), reasons.BadValue)
    ∷ (holds d r, reasons.Already)
    ∷ []

-- the table that bounds how many rows of a kind there are: a sub's is its slot's, a mute's its source's, a pin's and a
-- floor's its room's
abbrev pub table_of : Kind → Table
table_of kinds.Room = tables.Rooms
table_of kinds.Member = tables.Members
table_of kinds.Source = tables.Sources
table_of kinds.Slot = tables.Slots
table_of kinds.Sub = tables.Slots
table_of kinds.Mute = tables.Sources
table_of kinds.Gain = tables.Gains
table_of kinds.Pin = tables.Rooms
table_of kinds.Floor = tables.Rooms

-- a row of this kind that replaces none is one too many
abbrev pub is_full : Desk → Row → Kind × ℕ → Bool
is_full d r limit = is_of limit.0 r && (not (has d (key_of r)) && nat_le limit.1 (count_of limit.0 d))

-- there are as many of its kind as may be
abbrev pub full_cases : Desk → Row → List (Bool × Reason)
full_cases d r = map (λ limit. (is_full d r limit, reasons.Full (table_of limit.0) limit.1)) limits

-- the room has all the audio sources that it may have
abbrev pub room_is_full : Desk → Option ℕ → Bool
room_is_full d (Some room) = nat_le room_audio_limit (count_by (is_audio_in d room) d.others)
room_is_full d None = false

-- a source of audio is one too many in its member's room
abbrev pub audio_cases : Desk → Row → List (Bool × Reason)
audio_cases d (rows.Source s) = (
  same_media s.media Audio && room_is_full d (room_of d (rows.Source s)),
  reasons.Full tables.RoomAudio room_audio_limit,
)
    ∷ []
audio_cases d _ = []

-- a member's room doesn't carry its codec
abbrev pub is_mismatch : Desk → Row → Bool
is_mismatch d r = is_of kinds.Member r && not (all_suit d r)

-- the rates of a room and a codec don't go together
abbrev pub rate_cases : Desk → Row → List (Bool × Reason)
rate_cases d r = (is_mismatch d r, reasons.RateMismatch) ∷ []

-- the reasons against a row, by number: it exists; what it names is missing; it breaks a rule; its table is full; its
-- rate is another
abbrev pub put_cases : Desk → Row → List (Bool × Reason)
put_cases d r =
    (is_there d r, reasons.Exists)
    ∷ (lacking d (names r) ++ (rule_cases d r ++ (full_cases d r ++ (audio_cases d r ++ rate_cases d r))))

-- ---- against a row that is taken, and a member that is moved

-- the row whose number its key has is missing; it is missing itself
abbrev pub remove_cases : Desk → Key → List (Bool × Reason)
remove_cases d key =
    (not (has d (owner_of key)), missing (kind_of (owner_of key)))
    ∷ (not (has d key), reasons.NotThere)
    ∷ []

-- an audio source of the member
abbrev pub is_audio_of : ℕ → Row → Bool
is_audio_of member (rows.Source s) = same_media s.media Audio && nat_eq s.member member
is_audio_of member _ = false

-- the clock rate of a room
abbrev pub rate_at : Desk → ℕ → Option ℕ
rate_at d room = rate_of_room (row_at d (keys.Room room))

-- the clock rate of the room that a member is in
abbrev pub rate_of_member : Desk → ℕ → Option ℕ
rate_of_member d member = option_and_then (rate_at d) (room_of_member (row_at d (keys.Member member)))

-- both have a rate, and one
abbrev pub same_rate : Option ℕ → Option ℕ → Bool
same_rate (Some a) (Some b) = nat_eq a b
same_rate _ _ = false

-- the room is missing; the member is missing; it is there already; the room would have more audio sources than it may;
-- the room has another rate than its own
abbrev pub move_cases : Desk → ℕ → ℕ → List (Bool × Reason)
move_cases d member room =
    (not (has d (keys.Room room)), reasons.NoRoom)
    ∷ (not (has d (keys.Member member)), reasons.NoMember)
    ∷ (same_room (room_of_member (row_at d (keys.Member member))) (Some room), reasons.Already)
    ∷ (
      nat_lt room_audio_limit (count_by (is_audio_in d room) d.others + count_by (is_audio_of member) d.others),
      reasons.Full tables.RoomAudio room_audio_limit,
    )
    ∷ (not (same_rate (rate_of_member d member) (rate_at d room)), reasons.RateMismatch)
    ∷ []

-- ---- all

-- what can stand against a command, in the order of the refusals' numbers
abbrev pub cases_of : Desk → Form → List (Bool × Reason)
cases_of d (Put r) = put_cases d r
cases_of d (Remove key) = remove_cases d key
cases_of d (Move member room) = move_cases d member room

-- the reason of least number that holds
unfoldable pub reason_against : Desk → Command → Option Reason
reason_against d command = first_case (cases_of d (form_of command))

-- the refusal of least number that holds, out of memory apart
unfoldable pub refused : Desk → Command → Option Refusal
refused d command = option_map refusal_for (first_case (cases_of d (form_of command)))
