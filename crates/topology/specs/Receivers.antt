-- Who gets what a source sends, and in which order (RFC 7667 section 3.6.2; the order is own).
use Rattle.std.specs.Prelude.{◌≡◌, ℕ, Bool, if◌then◌else◌, nat_eq, List, [], ◌∷◌, filter, map, Option, None}
use Rattle.std.specs.Option.{option_map, option_and_then}
use Rattle.std.specs.List.{find, filter_map, flat_map, range_with_len}
use Rattle.rtp_codec.specs.declared.address.Address.{Address}
use Rattle.desk_rows.specs.declared.row.Member.{Member as MemberRow}
use Rattle.desk_rows.specs.declared.row.Slot.{Slot as SlotRow}
use Rattle.desk_rows.specs.Desk.{Desk}
use Rattle.topology.specs.declared.receivers.Receiver.{Receiver}
use Rattle.desk_rows.specs.Getters.{slot_in}
use Rattle.topology.specs.Looking.{member_at, slot_at, is_this, comes_from}
use Rattle.topology.specs.Choice.{chosen}

-- the slots of a desk
abbrev pub slots_of : Desk → List SlotRow
slots_of d = filter_map slot_in d.others

-- the slot chose this source
abbrev pub chooses : Desk → ℕ → SlotRow → Bool
chooses d source slot = is_this source (chosen d slot)

-- ---- all receivers in order

-- slots in the order of their indexes, of which there are 16: 0 to 15 (own)
unfoldable pub by_index : List SlotRow → List SlotRow
by_index slots = flat_map (λ index. filter (λ s. nat_eq s.index index) slots) (range_with_len 0 16)

-- the slots of a member, by index
abbrev pub slots_to : Desk → ℕ → List SlotRow
slots_to d member = by_index (filter (λ s. nat_eq s.member member) (slots_of d))

-- a slot as a receiver, at the address of a member
abbrev pub receiver : MemberRow → SlotRow → Receiver
receiver m slot = record { slot = slot; address = m.address }

-- the slots of these members as receivers, in the order of the members
abbrev pub by_place : List MemberRow → List SlotRow → List Receiver
by_place members slots = flat_map (λ m. map (receiver m) (filter (λ s. nat_eq s.member m.member) slots)) members

-- the receivers of what a source sends from an address: the slots that chose it, by place of the member and then by
-- index; none where the source's member has another address
unfoldable pub receivers : Desk → ℕ → Address → List Receiver
receivers d source address =
    if comes_from d source address then by_place d.members (by_index (filter (chooses d source) (slots_of d))) else []

-- ---- one receiver

-- the first receiver with this slot SSRC
abbrev pub receiver_at : ℕ → List Receiver → Option Receiver
receiver_at out_ssrc rs = find (λ r. nat_eq r.slot.out_ssrc out_ssrc) rs

-- a slot as a receiver at the address of its member, if it chose the source
abbrev pub receiving : Desk → ℕ → SlotRow → Option Receiver
receiving d source slot =
    if chooses d source slot then option_map (λ m. receiver m slot) (member_at d slot.member) else None

-- who gets on a stream what a source sends from an address: the stream's slot, at its member's address, where it chose
-- the source and the source's member has the address; else nobody
abbrev pub receiver_on : Desk → ℕ → Address → ℕ → Option Receiver
receiver_on d source address out_ssrc =
    if comes_from d source address then option_and_then (receiving d source) (slot_at d out_ssrc) else None

-- No two receivers have one slot SSRC.
abbrev pub AreDistinct : List Receiver → Type 0
AreDistinct [] = Unit {0}
AreDistinct (r ∷ rs) = (receiver_at r.slot.out_ssrc rs ≡ None) × AreDistinct rs
