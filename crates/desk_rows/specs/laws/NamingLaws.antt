-- Rows that have a member, a slot or a subscription in them.
use Rattle.std.specs.Prelude.{◌≡◌}
use Rattle.desk_rows.specs.laws.Words.{false, None, Some, refl, ap, Row, Member, Slot, Sub, SlotRow, SubRow, is_of}
use Rattle.desk_rows.specs.laws.Words.{slot_in, sub_in, member_in}
use Rattle.desk_rows.specs.declared.key.Kind.TheVariants as kinds

pub its_slot : (r : Row) (s : SlotRow) → slot_in r ≡ Some s → r ≡ Slot s
its_slot (Slot r) s e = (let same : r ≡ s = cc in ap Slot same)
its_slot _ s e = absurd (cc)

pub its_sub : (r : Row) (s : SubRow) → sub_in r ≡ Some s → r ≡ Sub s
its_sub (Sub r) s e = (let same : r ≡ s = cc in ap Sub same)
its_sub _ s e = absurd (cc)

pub no_member : (r : Row) → is_of kinds.Member r ≡ false → member_in r ≡ None
no_member (Member r) h = absurd (cc)
no_member _ h = refl

pub no_slot : (r : Row) → is_of kinds.Slot r ≡ false → slot_in r ≡ None
no_slot (Slot r) h = absurd (cc)
no_slot _ h = refl

pub no_sub : (r : Row) → is_of kinds.Sub r ≡ false → sub_in r ≡ None
no_sub (Sub r) h = absurd (cc)
no_sub _ h = refl
