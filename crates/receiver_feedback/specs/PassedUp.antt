-- Which picture losses of receivers are passed up (picture loss indications, RFC 4585 section 6.3.1; who is believed is
-- own).
use Rattle.std.specs.Prelude.{ℕ, Bool, false, if◌then◌else◌, Option, None, Some}
use Rattle.std.specs.Option.{option_map, option_and_then}
use Rattle.rtp_codec.specs.declared.address.Address.{Address}
use Rattle.desk_rows.specs.declared.row.Slot.{Slot as SlotRow}
use Rattle.desk_rows.specs.Desk.{Desk}
use Rattle.topology.specs.Looking.{member_at, member_from, is_this, sender_of, slot_at}
use Rattle.topology.specs.Choice.{choice}

-- there is a slot, and its member is the one that is at this address now
abbrev pub is_of_member_at : Desk → Address → Option SlotRow → Bool
is_of_member_at d from None = false
is_of_member_at d from (Some slot) = is_this slot.member (member_from d from)

-- a source, and the address of its member
abbrev pub with_address : Desk → ℕ → Option (Address × ℕ)
with_address d source = option_map (λ m. (m.address, source)) (option_and_then (member_at d) (sender_of d source))

-- to which address, and for which source, a picture loss of the stream of this SSRC is passed up: to the member of the
-- source that the slot chose, if who asks from an address is the slot's member
abbrev pub pli_up : Desk → Address → ℕ → Option (Address × ℕ)
pli_up d from out_ssrc =
    if is_of_member_at d from (slot_at d out_ssrc) then option_and_then (with_address d) (choice d out_ssrc) else None
