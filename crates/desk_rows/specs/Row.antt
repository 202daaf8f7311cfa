-- Rows: each kind is described here once, by its key, what it names and what it claims.
use Rattle.std.specs.Prelude.{ℕ, Bool, true, not, ◌&&◌, ◌||◌, List, [], ◌∷◌, ◌++◌, nat_eq, nat_le, Option, Some}
use Rattle.std.specs.List.{list_any}
use Rattle.desk_rows.specs.declared.row.Codec.{Codec}
use Rattle.desk_rows.specs.declared.row.Codec.TheVariants as codecs
use Rattle.desk_rows.specs.declared.row.Media.{Media}
use Rattle.desk_rows.specs.declared.row.Media.TheVariants as medias
use Rattle.desk_rows.specs.declared.row.Row.{Row}
use Rattle.desk_rows.specs.declared.row.Row.TheVariants.{Room, Member, Source, Slot, Sub, Mute, Gain, Pin, Floor}
use Rattle.desk_rows.specs.declared.key.Kind.{Kind}
use Rattle.desk_rows.specs.declared.key.Kind.TheVariants as kinds
use Rattle.desk_rows.specs.declared.key.Key.{Key}
use Rattle.desk_rows.specs.declared.key.Key.TheVariants as keys
use Rattle.desk_rows.specs.declared.claim.Claim.{Claim}
use Rattle.desk_rows.specs.declared.claim.Claim.TheVariants as claims
use Rattle.desk_rows.specs.Numbers.{same_numbers}
use Rattle.desk_rows.specs.Values.{row_values, media_number, same_values}
use Rattle.desk_rows.specs.Limits.{index_limit, q8_limit}

-- ---- keys

-- the place of a kind among the kinds: gains, which may be many, come first, so that only a change of a gain moves them
abbrev pub rank : Kind → ℕ
rank kinds.Gain = 0
rank kinds.Room = 1
rank kinds.Member = 2
rank kinds.Source = 3
rank kinds.Slot = 4
rank kinds.Sub = 5
rank kinds.Mute = 6
rank kinds.Pin = 7
rank kinds.Floor = 8

-- the kind of the row that a key names
abbrev pub kind_of : Key → Kind
kind_of (keys.Room n) = kinds.Room
kind_of (keys.Member n) = kinds.Member
kind_of (keys.Source n) = kinds.Source
kind_of (keys.Slot n) = kinds.Slot
kind_of (keys.Sub n) = kinds.Sub
kind_of (keys.Mute n) = kinds.Mute
kind_of (keys.Gain m n) = kinds.Gain
kind_of (keys.Pin n) = kinds.Pin
kind_of (keys.Floor n) = kinds.Floor

-- a key's one or two numbers within its kind, behind a 0 where it is one
abbrev pub own_numbers : Key → List ℕ
own_numbers (keys.Room n) = 0 ∷ n ∷ []
own_numbers (keys.Member n) = 0 ∷ n ∷ []
own_numbers (keys.Source n) = 0 ∷ n ∷ []
own_numbers (keys.Slot n) = 0 ∷ n ∷ []
own_numbers (keys.Sub n) = 0 ∷ n ∷ []
own_numbers (keys.Mute n) = 0 ∷ n ∷ []
own_numbers (keys.Gain m n) = m ∷ n ∷ []
own_numbers (keys.Pin n) = 0 ∷ n ∷ []
own_numbers (keys.Floor n) = 0 ∷ n ∷ []

-- the numbers that tell a key from all others: its kind's, and its own
abbrev pub key_numbers : Key → List ℕ
key_numbers k = rank (kind_of k) ∷ own_numbers k

-- whether two keys are one
abbrev pub same_key : Key → Key → Bool
same_key a b = same_numbers (key_numbers a) (key_numbers b)

-- a row's key
abbrev pub key_of : Row → Key
key_of (Room r) = keys.Room r.room
key_of (Member m) = keys.Member m.member
key_of (Source s) = keys.Source s.ssrc
key_of (Slot s) = keys.Slot s.out_ssrc
key_of (Sub s) = keys.Sub s.out_ssrc
key_of (Mute m) = keys.Mute m.source
key_of (Gain g) = keys.Gain g.member g.source
key_of (Pin p) = keys.Pin p.room
key_of (Floor f) = keys.Floor f.room

-- whether this is the row's key
abbrev pub has_key : Key → Row → Bool
has_key key r = same_key (key_of r) key

-- ---- rows

-- two kinds of media are one
abbrev pub same_media : Media → Media → Bool
same_media a b = nat_eq (media_number a) (media_number b)

-- whether two rows are one: of one kind, and with the same values
abbrev pub same_row : Row → Row → Bool
same_row a b =
    nat_eq (rank (kind_of (key_of a))) (rank (kind_of (key_of b))) && same_values (row_values a) (row_values b)

-- ---- what a row needs of others

-- the keys of the rows that a row names, by rising kind
abbrev pub names : Row → List Key
names (Room r) = []
names (Member m) = keys.Room m.room ∷ []
names (Source s) = keys.Member s.member ∷ []
names (Slot s) = keys.Member s.member ∷ []
names (Sub s) = keys.Source s.source ∷ keys.Slot s.out_ssrc ∷ []
names (Mute m) = keys.Source m.source ∷ []
names (Gain g) = keys.Member g.member ∷ keys.Source g.source ∷ []
names (Pin p) = keys.Room p.room ∷ keys.Source p.source ∷ []
names (Floor f) = keys.Room f.room ∷ keys.Member f.member ∷ []

-- the key whose number a key has: a sub's is its slot's, a mute's its source's, a pin's and a floor's its room's; any
-- other is its own
abbrev pub owner_of : Key → Key
owner_of (keys.Room n) = keys.Room n
owner_of (keys.Member n) = keys.Member n
owner_of (keys.Source n) = keys.Source n
owner_of (keys.Slot n) = keys.Slot n
owner_of (keys.Sub n) = keys.Slot n
owner_of (keys.Mute n) = keys.Source n
owner_of (keys.Gain m n) = keys.Gain m n
owner_of (keys.Pin n) = keys.Room n
owner_of (keys.Floor n) = keys.Room n

-- what a row wants of those that it names
pub data Want : Type 0 where
  -- nothing
  Anything : Want
  -- sources that send this
  Sends : (media : Media) → Want
  -- a room that carries this codec
  Carries : (codec : Codec) → Want

-- a sub and a pin want video, a gain wants audio, and a member wants a room that carries its codec
abbrev pub wants : Row → Want
wants (Room r) = Anything
wants (Member m) = Carries m.codec
wants (Source s) = Anything
wants (Slot s) = Anything
wants (Sub s) = Sends medias.Video
wants (Mute m) = Anything
wants (Gain g) = Sends medias.Audio
wants (Pin p) = Sends medias.Video
wants (Floor f) = Anything

-- a room of this clock rate, in Hz, carries a codec: PCMU is at 8000 Hz alone (RFC 3551 section 4.5.14)
abbrev pub carries : ℕ → Codec → Bool
carries rate codecs.Pcmu = nat_eq rate 8000
carries rate codecs.L16 = true

-- whether the row that was found under a name is of the kind that is wanted
abbrev pub suits : Want → Option Row → Bool
suits (Sends media) (Some (Source s)) = same_media s.media media
suits (Carries codec) (Some (Room r)) = carries r.rate codec
suits _ _ = true

-- the values are in their ranges: a room's rate is one of two, a port is not 0, a slot has a place among few, a gain a
-- greatest value
abbrev pub is_in_range : Row → Bool
is_in_range (Room r) = nat_eq r.rate 8000 || nat_eq r.rate 44100
is_in_range (Member m) = not (nat_eq m.address.port 0)
is_in_range (Source s) = true
is_in_range (Slot s) = nat_le s.index index_limit
is_in_range (Sub s) = true
is_in_range (Mute m) = true
is_in_range (Gain g) = nat_le g.q8 q8_limit
is_in_range (Pin p) = true
is_in_range (Floor f) = true

-- what a row has to itself beside its key: a member its address and the SSRC of its mix; a source its SSRC; a slot its
-- SSRC and its place among its member's
abbrev pub other_claims : Row → List Claim
other_claims (Room r) = []
other_claims (Member m) = claims.Address m.address ∷ claims.Ssrc m.out_audio ∷ []
other_claims (Source s) = claims.Ssrc s.ssrc ∷ []
other_claims (Slot s) = claims.Ssrc s.out_ssrc ∷ claims.Place s.member s.index ∷ []
other_claims (Sub s) = []
other_claims (Mute m) = []
other_claims (Gain g) = []
other_claims (Pin p) = []
other_claims (Floor f) = []

-- what a row has to itself
abbrev pub claims_of : Row → List Claim
claims_of r = claims.Key (key_of r) ∷ other_claims r

-- the numbers that tell a claim from all others: which it is, and its own before as many 0 as make six
abbrev pub claim_numbers : Claim → List ℕ
claim_numbers (claims.Key k) = 0 ∷ rank (kind_of k) ∷ own_numbers k ++ (0 ∷ 0 ∷ [])
claim_numbers (claims.Address a) = 1 ∷ a.port ∷ a.ip
claim_numbers (claims.Ssrc ssrc) = 2 ∷ ssrc ∷ 0 ∷ 0 ∷ 0 ∷ 0 ∷ []
claim_numbers (claims.Place member index) = 3 ∷ member ∷ index ∷ 0 ∷ 0 ∷ 0 ∷ []

-- whether two claims are one
abbrev pub same_claim : Claim → Claim → Bool
same_claim a b = same_numbers (claim_numbers a) (claim_numbers b)

-- whether a row makes this claim
abbrev pub makes : Claim → Row → Bool
makes (claims.Key key) r = has_key key r
makes claim r = list_any (same_claim claim) (other_claims r)
