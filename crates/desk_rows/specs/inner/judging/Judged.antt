-- How the desk after an edit is judged by the rows that come and by those that the edit touches, given that the desk
-- before it is good. No public clause cites this.
use Rattle.std.specs.Prelude.{◌≡◌, true, ℕ, Bool, false, ◌&&◌, ◌||◌, not, List, [], ◌∷◌, ◌++◌, map, nat_eq, count_by}
use Rattle.std.specs.Prelude.{Option}
use Rattle.std.specs.List.{find, list_any, list_all}
use Rattle.desk_rows.specs.declared.row.Row.{Row}
use Rattle.desk_rows.specs.declared.row.Row.TheVariants.{Room, Member}
use Rattle.desk_rows.specs.declared.key.Key.{Key}
use Rattle.desk_rows.specs.declared.key.Key.TheVariants as keys
use Rattle.desk_rows.specs.declared.key.Kind.TheVariants as kinds
use Rattle.desk_rows.specs.Row.{key_of, has_key, names, other_claims}
use Rattle.desk_rows.specs.declared.edit.Placed.{Placed}
use Rattle.desk_rows.specs.Order.{in_order, with_rows, without_rows}
use Rattle.desk_rows.specs.Places.{take_at}
use Rattle.desk_rows.specs.Edit.{EditOf, outs, ins}
use Rattle.desk_rows.specs.Desk.{Desk, row_at, is_within_limits, is_named_there, is_made_once, is_alone, is_audio_in}
use Rattle.desk_rows.specs.Desk.{obeys}
use Rattle.desk_rows.specs.Kinds.{is_of}
use Rattle.desk_rows.specs.Exchange.{exchanged}
use Rattle.desk_rows.specs.inner.judging.Found.{finds, is_elsewhere}

-- the lists of an edit are in order
pub record HasOrders (e : EditOf) : Type 0 where
  pub taken : in_order e.taken.others ≡ true
  pub old : in_order e.replaced.old ≡ true
  pub put : in_order e.put.others ≡ true
  pub new : in_order e.replaced.new ≡ true

-- beside members, all that an edit does is to put the second row in place of the first
pub record OnlyReplaces (e : EditOf) (r s : Row) : Type 0 where
  pub taken : e.taken.others ≡ []
  pub put : e.put.others ≡ []
  pub old : e.replaced.old ≡ r ∷ []
  pub new : e.replaced.new ≡ s ∷ []

-- ---- the rows that stay, those that go and those that come

abbrev pub stay_rows : Desk → EditOf → List Row
stay_rows d e = map Member (take_at e.taken.members d.members) ++ without_rows (outs e) d.others

-- members with places, and other rows of two lists
abbrev pub change_rows : List Placed → List Row → List Row → List Row
change_rows ps rs more = map (λ p. Member p.row) ps ++ with_rows more rs

-- the same one behind the other
abbrev pub listed_rows : List Placed → List Row → List Row → List Row
listed_rows ps rs more = map (λ p. Member p.row) ps ++ (rs ++ more)

abbrev pub go_rows : EditOf → List Row
go_rows e = change_rows e.taken.members e.taken.others e.replaced.old

abbrev pub come_rows : EditOf → List Row
come_rows e = change_rows e.put.members e.put.others e.replaced.new

-- the members and the other rows that stay, that go and that come, counted
abbrev pub stay_count : (Row → Bool) → Desk → EditOf → ℕ
stay_count p d e = count_by p (stay_rows d e)

abbrev pub go_count : (Row → Bool) → EditOf → ℕ
go_count p e = count_by p (go_rows e)

abbrev pub come_count : (Row → Bool) → EditOf → ℕ
come_count p e = count_by p (come_rows e)

-- the edit takes a row with this key
abbrev pub takes : EditOf → Key → Bool
takes e key = list_any (has_key key) (go_rows e)

-- the edit puts a row with this key
abbrev pub puts : EditOf → Key → Bool
puts e key = list_any (has_key key) (come_rows e)

-- the row with this key that the edit puts
abbrev pub coming : EditOf → Key → Option Row
coming e key = find (has_key key) (listed_rows e.put.members e.put.others e.replaced.new)

-- no row that a row names goes for good
abbrev pub keeps_names : EditOf → Row → Bool
keeps_names e r = list_all (λ key. not (takes e key && not (puts e key))) (names r)

-- each row that comes
abbrev pub all_come : (Row → Bool) → EditOf → Bool
all_come q e = list_all q (come_rows e)

-- each row that stays
abbrev pub all_stay : (Row → Bool) → Desk → EditOf → Bool
all_stay q d e = list_all q (stay_rows d e)

-- a row that comes is sound in the new desk
unfoldable pub is_sound : Desk → Row → Bool
is_sound d r = is_named_there d r && (is_alone d r && obeys d r)

-- a member comes into another room than it was in
abbrev pub moves : Desk → EditOf → Bool
moves d e = list_any (λ p. finds (is_elsewhere p.row.room) (row_at d (keys.Member p.row.member))) e.put.members

-- an audio source comes into the room
abbrev pub gains_audio : Desk → EditOf → Row → Bool
gains_audio d e (Room r) = list_any (is_audio_in (exchanged d e) r.room) (ins e)
gains_audio d e _ = false

-- a room
abbrev pub is_room : Row → Bool
is_room (Room r) = true
is_room _ = false

-- a row of these keys is taken
abbrev pub takes_any : EditOf → List Key → Bool
takes_any e ks = list_any (takes e) ks

-- what a row names is two rows
abbrev pub is_pair : List Key → Bool
is_pair (a ∷ b ∷ []) = true
is_pair _ = false

-- what the rule of a row that stays looks at may have changed: a member moves, audio comes into a room, or a row that
-- it names is taken
abbrev pub is_shaken : Bool → Desk → EditOf → Row → Bool
is_shaken moved d e r = (moved && (is_room r || is_pair (names r))) || (gains_audio d e r || takes_any e (names r))

-- a row that stays is sound in the new desk: only where it is shaken is its rule asked for again
unfoldable pub stays_sound : Bool → Desk → EditOf → Row → Bool
stays_sound moved d e r = keeps_names e r && (not (is_shaken moved d e r) || obeys (exchanged d e) r)

-- no row that stays has this key
abbrev pub is_free : Desk → EditOf → Key → Bool
is_free d e key = not (list_any (has_key key) (stay_rows d e))

-- just one member that comes has this key
abbrev pub comes_once : EditOf → Key → Bool
comes_once e key = nat_eq (count_by (λ p. has_key key (Member p.row)) e.put.members) 1

-- no row that comes has the key of another row
unfoldable pub keys_are_new : Desk → EditOf → Bool
keys_are_new d e =
    list_all (λ p. is_free d e (key_of (Member p.row)) && comes_once e (key_of (Member p.row))) e.put.members
    && list_all (λ r. is_free d e (key_of r)) (ins e)

-- a row that comes under a new key is sound in the new desk
unfoldable pub is_sound_beside : Desk → Row → Bool
is_sound_beside d r = is_named_there d r && (list_all (is_made_once d) (other_claims r) && obeys d r)

unfoldable pub judged : Desk → EditOf → Bool
judged d e =
    (list_all (λ r. not (is_of kinds.Member r)) (ins e) && keys_are_new d e)
    && (is_within_limits (exchanged d e)
    && (all_come (is_sound_beside (exchanged d e)) e && all_stay (stays_sound (moves d e) d e) d e))
