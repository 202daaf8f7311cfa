-- The row under a key of a kind is of that kind.
use Rattle.std.specs.Prelude.{◌≡◌, ◌∷◌}
use Rattle.desk_rows.specs.laws.Words.{ℕ, Bool, true, false, cond, List, [], Option, None, Some, refl, sym, ap}
use Rattle.desk_rows.specs.laws.Words.{◌∙◌, eqb-true, find, option_map, option_and_then, Row, Key, MemberRow, SlotRow}
use Rattle.desk_rows.specs.laws.Words.{SubRow, Desk, rows_of, row_at, has_key, Room, Member, Source, Slot, Sub, Pin}
use Rattle.desk_rows.specs.laws.Words.{Floor, room_in, member_in, source_in, slot_in, sub_in, pin_in, floor_in}
use Rattle.desk_rows.specs.laws.Words.{room_row_at, member_at, source_at, slot_at, sub_at, pin_at, floor_at}
use Rattle.desk_rows.specs.declared.row.Room.{Room as RoomRow}
use Rattle.desk_rows.specs.declared.row.Source.{Source as SourceRow}
use Rattle.desk_rows.specs.declared.row.Pin.{Pin as PinRow}
use Rattle.desk_rows.specs.declared.row.Floor.{Floor as FloorRow}
use Rattle.desk_rows.specs.declared.key.Key.TheVariants as keys

-- ---- in any rows

-- what is found passes the test
first_passes : (p : Row → Bool) (rs : List Row) (r : Row) → find p rs ≡ Some r → p r ≡ true
first_passes p [] r h = absurd (cc)
first_passes p (x ∷ rs) r h = by (p x) refl h (first_passes p rs r)
  where
    by : (b : Bool) → p x ≡ b → cond b (Some x) (find p rs) ≡ Some r → (find p rs ≡ Some r → p r ≡ true) → p r ≡ true
    by true e h later = (let same : x ≡ r = cc in sym (ap p same) ∙ e)
    by false e h later = later h

-- the row that is found has the key
pub found_has_key : (d : Desk) (key : Key) (r : Row) → row_at d key ≡ Some r → has_key key r ≡ true
found_has_key d key r h = first_passes (has_key key) (rows_of d) r h

-- a row with the key of a kind is of that kind, and has the number
pub room_with : (n : ℕ) (r : Row) → has_key (keys.Room n) r ≡ true → (q : RoomRow) × (r ≡ Room q) × (q.room ≡ n)
room_with n (Room q) e = (q, refl, eqb-true q.room n e)
room_with n _ e = absurd (cc)

pub member_with : (n : ℕ) (r : Row) → has_key (keys.Member n) r ≡ true
    → (m : MemberRow) × (r ≡ Member m) × (m.member ≡ n)
member_with n (Member m) e = (m, refl, eqb-true m.member n e)
member_with n _ e = absurd (cc)

source_with : (n : ℕ) (r : Row) → has_key (keys.Source n) r ≡ true → (s : SourceRow) × (r ≡ Source s) × (s.ssrc ≡ n)
source_with n (Source s) e = (s, refl, eqb-true s.ssrc n e)
source_with n _ e = absurd (cc)

slot_with : (n : ℕ) (r : Row) → has_key (keys.Slot n) r ≡ true → (s : SlotRow) × (r ≡ Slot s) × (s.out_ssrc ≡ n)
slot_with n (Slot s) e = (s, refl, eqb-true s.out_ssrc n e)
slot_with n _ e = absurd (cc)

sub_with : (n : ℕ) (r : Row) → has_key (keys.Sub n) r ≡ true → (s : SubRow) × (r ≡ Sub s) × (s.out_ssrc ≡ n)
sub_with n (Sub s) e = (s, refl, eqb-true s.out_ssrc n e)
sub_with n _ e = absurd (cc)

pin_with : (n : ℕ) (r : Row) → has_key (keys.Pin n) r ≡ true → (p : PinRow) × (r ≡ Pin p) × (p.room ≡ n)
pin_with n (Pin p) e = (p, refl, eqb-true p.room n e)
pin_with n _ e = absurd (cc)

floor_with : (n : ℕ) (r : Row) → has_key (keys.Floor n) r ≡ true → (f : FloorRow) × (r ≡ Floor f) × (f.room ≡ n)
floor_with n (Floor f) e = (f, refl, eqb-true f.room n e)
floor_with n _ e = absurd (cc)

-- ---- in a desk

-- the row that is found is that of what is found in it
of_kind : {X : Type 0} (make : X → Row) (part : Row → Option X) (number : X → ℕ) (n : ℕ) (key : Key)
    → ((x : X) → part (make x) ≡ Some x)
    → ((r : Row) → has_key key r ≡ true → (x : X) × (r ≡ make x) × (number x ≡ n))
    → (d : Desk) → row_at d key ≡ option_map make (option_and_then part (row_at d key))
of_kind make part number n key back its d = by (row_at d key) (found_has_key d key)
  where
    by : (o : Option Row) → ((r : Row) → o ≡ Some r → has_key key r ≡ true)
        → o ≡ option_map make (option_and_then part o)
    by None h = refl
    by (Some r) h =
        (let is = its r (h r refl) in ap Some is.1 ∙ sym (ap (option_map make) (ap part is.1 ∙ back is.0)))

pub under_room : (d : Desk) (n : ℕ) → row_at d (keys.Room n) ≡ option_map Room (room_row_at d n)
under_room d n = of_kind Room room_in (λ q. q.room) n (keys.Room n) (λ q. refl) (room_with n) d

pub under_member : (d : Desk) (n : ℕ) → row_at d (keys.Member n) ≡ option_map Member (member_at d n)
under_member d n = of_kind Member member_in (λ m. m.member) n (keys.Member n) (λ m. refl) (member_with n) d

pub under_source : (d : Desk) (n : ℕ) → row_at d (keys.Source n) ≡ option_map Source (source_at d n)
under_source d n = of_kind Source source_in (λ s. s.ssrc) n (keys.Source n) (λ s. refl) (source_with n) d

pub under_slot : (d : Desk) (n : ℕ) → row_at d (keys.Slot n) ≡ option_map Slot (slot_at d n)
under_slot d n = of_kind Slot slot_in (λ s. s.out_ssrc) n (keys.Slot n) (λ s. refl) (slot_with n) d

pub under_sub : (d : Desk) (n : ℕ) → row_at d (keys.Sub n) ≡ option_map Sub (sub_at d n)
under_sub d n = of_kind Sub sub_in (λ s. s.out_ssrc) n (keys.Sub n) (λ s. refl) (sub_with n) d

pub under_pin : (d : Desk) (n : ℕ) → row_at d (keys.Pin n) ≡ option_map Pin (pin_at d n)
under_pin d n = of_kind Pin pin_in (λ p. p.room) n (keys.Pin n) (λ p. refl) (pin_with n) d

pub under_floor : (d : Desk) (n : ℕ) → row_at d (keys.Floor n) ≡ option_map Floor (floor_at d n)
under_floor d n = of_kind Floor floor_in (λ f. f.room) n (keys.Floor n) (λ f. refl) (floor_with n) d

-- what is found has the number
numbered : {X : Type 0} (make : X → Row) (part : Row → Option X) (number : X → ℕ) (n : ℕ) (key : Key)
    → ((x : X) → part (make x) ≡ Some x)
    → ((r : Row) → has_key key r ≡ true → (x : X) × (r ≡ make x) × (number x ≡ n))
    → (d : Desk) (x : X) → option_and_then part (row_at d key) ≡ Some x → number x ≡ n
numbered make part number n key back its d x h = by (row_at d key) (found_has_key d key) h
  where
    by : (o : Option Row) → ((r : Row) → o ≡ Some r → has_key key r ≡ true) → option_and_then part o ≡ Some x
        → number x ≡ n
    by None has h = absurd (cc)
    by (Some r) has h =
        (let is = its r (has r refl) in
        let both : Some is.0 ≡ Some x = sym (back is.0) ∙ sym (ap part is.1) ∙ h in
        let one : is.0 ≡ x = cc in
        sym (ap number one) ∙ is.2)

pub number_of_room : (d : Desk) (n : ℕ) (q : RoomRow) → room_row_at d n ≡ Some q → q.room ≡ n
number_of_room d n = numbered Room room_in (λ q. q.room) n (keys.Room n) (λ q. refl) (room_with n) d

pub number_of_member : (d : Desk) (n : ℕ) (m : MemberRow) → member_at d n ≡ Some m → m.member ≡ n
number_of_member d n = numbered Member member_in (λ m. m.member) n (keys.Member n) (λ m. refl) (member_with n) d
