-- The first rule that names a source decides.
use Rattle.std.proofs.Common.{◌≡◌, ℕ, Bool, true, false, cond, nat_eq, Option, None, Some, refl, sym, ap, ◌∙◌, arith}
use Rattle.std.specs.Prelude.{option_and_then}
use Rattle.std.specs.Option.{option_or}
use Rattle.std.proofs.lemmas.Bool.Decides.{nat_tests}
use Rattle.desk_rows.specs.declared.row.Slot.{Slot as SlotRow}
use Rattle.desk_rows.specs.Desk.{Desk}
use Rattle.topology.specs.Looking.{slot_at, subscribed, pinned, holder, room_of_member}
use Rattle.topology.specs.Choice.{first_video, shown, shown_on, unless_barred, chosen, choice}
use Rattle.topology.proofs.Finding.{found_key}
use Rattle.topology.proofs.KindRows.{slot_ssrc, slot_row}

-- a slot's subscription, by its own SSRC
own_sub : (d : Desk) (k : ℕ) (slot : SlotRow) (o : Option ℕ) → slot_at d k ≡ Some slot → subscribed d k ≡ o
    → subscribed d slot.out_ssrc ≡ o
own_sub d k slot o found sub = ap (subscribed d) (found_key slot_ssrc k slot _ (sym (slot_row d k) ∙ found)) ∙ sub

pub of_sub : (d : Desk) (k source : ℕ) (slot : SlotRow) → slot_at d k ≡ Some slot → subscribed d k ≡ Some source
    → choice d k ≡ unless_barred d slot source
of_sub d k source slot found sub =
    ap (option_and_then (chosen d)) found
    ∙ ap (λ o. option_and_then (unless_barred d slot) (option_or o (shown_on d slot)))
    (own_sub d k slot (Some source) found sub)

-- without a subscription a slot gets what it is shown
without_sub : (d : Desk) (k : ℕ) (slot : SlotRow) → slot_at d k ≡ Some slot → subscribed d k ≡ None
    → choice d k ≡ option_and_then (unless_barred d slot) (shown_on d slot)
without_sub d k slot found sub =
    ap (option_and_then (chosen d)) found
    ∙ ap (λ o. option_and_then (unless_barred d slot) (option_or o (shown_on d slot))) (own_sub d k slot None found sub)

pub above_first : (d : Desk) (k : ℕ) (slot : SlotRow) → slot_at d k ≡ Some slot → subscribed d k ≡ None
    → ¬ (slot.index ≡ 0) → choice d k ≡ None
above_first d k slot found sub more =
    without_sub d k slot found sub
    ∙ ap
    (λ b.
    option_and_then (unless_barred d slot) (cond b (option_and_then (shown d) (room_of_member d slot.member)) None))
    (differs slot.index more)
  where
    differs : (n : ℕ) → ¬ (n ≡ 0) → nat_eq n 0 ≡ false
    differs n h = grind (arith, nat_tests)

-- at index 0 a slot is shown what its room shows
of_room : (d : Desk) (k room : ℕ) (slot : SlotRow) → slot_at d k ≡ Some slot → subscribed d k ≡ None → slot.index ≡ 0
    → room_of_member d slot.member ≡ Some room → choice d k ≡ option_and_then (unless_barred d slot) (shown d room)
of_room d k room slot found sub first in_room =
    without_sub d k slot found sub
    ∙ ap
    (λ n.
    option_and_then (unless_barred d slot)
    (cond (nat_eq n 0) (option_and_then (shown d) (room_of_member d slot.member)) None))
    first
    ∙ ap (λ o. option_and_then (unless_barred d slot) (option_and_then (shown d) o)) in_room

pub of_pin : (d : Desk) (k room source : ℕ) (slot : SlotRow) → slot_at d k ≡ Some slot → subscribed d k ≡ None
    → slot.index ≡ 0 → room_of_member d slot.member ≡ Some room → pinned d room ≡ Some source
    → choice d k ≡ unless_barred d slot source
of_pin d k room source slot found sub first in_room pin =
    of_room d k room slot found sub first in_room
    ∙ ap (λ o. option_and_then (unless_barred d slot) (option_or o (option_and_then (first_video d) (holder d room))))
    pin

pub of_floor : (d : Desk) (k room member source : ℕ) (slot : SlotRow) → slot_at d k ≡ Some slot → subscribed d k ≡ None
    → slot.index ≡ 0 → room_of_member d slot.member ≡ Some room → pinned d room ≡ None → holder d room ≡ Some member
    → first_video d member ≡ Some source → choice d k ≡ unless_barred d slot source
of_floor d k room member source slot found sub first in_room pin held video =
    of_room d k room slot found sub first in_room
    ∙ ap (λ o. option_and_then (unless_barred d slot) (option_or o (option_and_then (first_video d) (holder d room))))
    pin
    ∙ ap (λ o. option_and_then (unless_barred d slot) (option_and_then (first_video d) o)) held
    ∙ ap (option_and_then (unless_barred d slot)) video

pub of_nothing : (d : Desk) (k room : ℕ) (slot : SlotRow) → slot_at d k ≡ Some slot → subscribed d k ≡ None
    → room_of_member d slot.member ≡ Some room → shown d room ≡ None → choice d k ≡ None
of_nothing d k room slot found sub in_room none =
    without_sub d k slot found sub
    ∙ ap (λ o. option_and_then (unless_barred d slot) (cond (nat_eq slot.index 0) o None))
    (ap (option_and_then (shown d)) in_room ∙ none)
    ∙ either (nat_eq slot.index 0)
  where
    either : (b : Bool) → option_and_then (unless_barred d slot) (cond b None None) ≡ None
    either true = refl
    either false = refl
