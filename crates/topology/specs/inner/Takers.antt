-- How the slots that chose a source are found from its side. No public clause cites this.
use Rattle.std.specs.Prelude.{◌≡◌, ℕ, not, ◌&&◌, if◌then◌else◌, nat_eq, List, [], ◌++◌, filter, Option, None, Some}
use Rattle.std.specs.Option.{is_none, option_and_then}
use Rattle.std.specs.List.{find, filter_map}
use Rattle.rtp_codec.specs.declared.address.Address.{Address}
use Rattle.rtp_codec.specs.Address.{same_address}
use Rattle.desk_rows.specs.declared.row.Member.{Member as MemberRow}
use Rattle.desk_rows.specs.declared.row.Slot.{Slot as SlotRow}
use Rattle.desk_rows.specs.declared.row.Sub.{Sub as SubRow}
use Rattle.desk_rows.specs.Desk.{Desk}
use Rattle.desk_rows.specs.Naming.{members_in, subs_naming, slots_naming}
use Rattle.topology.specs.Looking.{member_at, slot_at, subscribed, is_muted, is_this, sender_of}
use Rattle.topology.specs.Choice.{shown}

-- a member, if it has this address
abbrev pub if_at : Address → MemberRow → Option MemberRow
if_at address m = if same_address m.address address then Some m else None

-- the member who sends the source from the address, unless the source is muted
abbrev pub sender_from : Desk → ℕ → Address → Option MemberRow
sender_from d source address =
    if is_muted d source
    then None
    else option_and_then (if_at address) (option_and_then (member_at d) (sender_of d source))

-- a slot, unless it is this member's
abbrev pub unless_own : MemberRow → SlotRow → Option SlotRow
unless_own sender s = if nat_eq s.member sender.member then None else Some s

-- the slot of a subscription, unless it is the sender's
abbrev pub subscriber : Desk → MemberRow → SubRow → Option SlotRow
subscriber d sender s = option_and_then (unless_own sender) (slot_at d s.out_ssrc)

-- the slot of index 0 of a member
abbrev pub first_slot : Desk → ℕ → Option SlotRow
first_slot d member = find (λ s. nat_eq s.index 0) (slots_naming d member)

-- a slot, unless it has a subscription
abbrev pub unless_subscribed : Desk → SlotRow → Option SlotRow
unless_subscribed d s = if is_none (subscribed d s.out_ssrc) then Some s else None

-- the slot of index 0 of a member of the sender's room, not the sender, unless it has a subscription
abbrev pub viewer : Desk → MemberRow → MemberRow → Option SlotRow
viewer d sender m =
    if nat_eq m.room sender.room && not (nat_eq m.member sender.member)
    then option_and_then (unless_subscribed d) (first_slot d m.member)
    else None

-- the members of the room, if it shows the source, and else none
abbrev pub members_if_shown : Desk → ℕ → ℕ → List MemberRow
members_if_shown d source room = if is_this source (shown d room) then members_in d room else []

-- These are they, in any order.
abbrev pub AreShown : Desk → ℕ → ℕ → List MemberRow → Type 0
AreShown d source room ms =
    (number : ℕ)
    → filter (λ m. nat_eq m.member number) ms ≡ filter (λ m. nat_eq m.member number) (members_if_shown d source room)

-- the slots that take the source: those that have subscribed to it before those of these members that are shown it
abbrev pub takers : Desk → ℕ → MemberRow → List MemberRow → List SlotRow
takers d source sender ms =
    filter_map (subscriber d sender) (subs_naming d source)
    ++ filter_map (viewer d sender) ms
