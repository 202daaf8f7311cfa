-- The slots that take a source, put in order, are its receivers.
use Rattle.std.proofs.Common.{◌≡◌, ℕ, ◌<◌, Bool, true, false, cond, not, ◌||◌, nat_eq, List, [], Option}
use Rattle.std.proofs.Common.{None, Some, refl, sym, ap, ◌∙◌}
use Rattle.std.specs.Prelude.{filter, option_and_then}
use Rattle.std.specs.List.{All}
use Rattle.std.proofs.lemmas.Bool.{and_right}
use Rattle.std.proofs.lemmas.List.Elements.{All-filter, All-weaker, All-from_recursion, filter_agree}
use Rattle.rtp_codec.specs.declared.address.Address.{Address}
use Rattle.rtp_codec.specs.Address.{same_address}
use Rattle.desk_rows.specs.declared.row.Member.{Member as MemberRow}
use Rattle.desk_rows.specs.declared.row.Slot.{Slot as SlotRow}
use Rattle.desk_rows.specs.Desk.{Desk, good}
use Rattle.topology.specs.Looking.{member_at, is_muted, is_this, sender_of, has_address, comes_from}
use Rattle.topology.specs.Choice.{wanted, are_in_one_room, is_barred}
use Rattle.topology.specs.Receivers.{slots_of, chooses, by_index, by_place, receivers}
use Rattle.topology.specs.inner.Takers.{if_at, sender_from, AreShown, takers}
use Rattle.topology.proofs.Rising.{Found, all_found}
use Rattle.topology.proofs.KindRows.{slot_ssrc}
use Rattle.topology.proofs.GoodRows.{slots_rise, index_few}
use Rattle.topology.proofs.Parted.{none_pass, at_place-filter, by_place-same, by_place-none}
use Rattle.topology.proofs.FromItsSide.{unbarred, IsHeardFrom, taken_at}

-- those that take the source, put in order, are its receivers
pub takers_in_order : (d : Desk) (source : ℕ) (address : Address) (sender : MemberRow) (ms : List MemberRow)
    → good d ≡ true → IsHeardFrom d source address sender → AreShown d source sender.room ms
    → by_place d.members (by_index (takers d source sender ms)) ≡ receivers d source address
unfolding receivers
takers_in_order d source address sender ms g h are =
    by_place-same d.members (takers d source sender ms) (filter (chooses d source) (slots_of d)) (λ k index.
    taken_at d source address sender ms g h are k index
    ∙ sym (at_place-filter k index (chooses d source) (slots_of d)))
    ∙ sym (ap (λ b. cond b (by_place d.members (by_index (filter (chooses d source) (slots_of d)))) []) h.comes)

-- the slots of a member have indexes from 0 to 15
pub slots_to_few : (d : Desk) (member : ℕ) → good d ≡ true
    → All (λ (s : SlotRow). s.index < 16) (filter (λ s. nat_eq s.member member) (slots_of d))
slots_to_few d member g =
    All-filter (λ s. nat_eq s.member member) (λ (s : SlotRow). s.index < 16) (slots_of d)
    (All-weaker (Found slot_ssrc (slots_of d)) (λ (s : SlotRow). s.index < 16)
    (λ s found. index_few d s.out_ssrc s g found) (slots_of d)
    (All-from_recursion (Found slot_ssrc (slots_of d)) (slots_of d)
    (all_found slot_ssrc (slots_of d) (slots_rise d g))))

-- ---- nobody

-- nobody gets what comes from another address
from_elsewhere : (d : Desk) (source : ℕ) (address : Address) → comes_from d source address ≡ false
    → receivers d source address ≡ []
unfolding receivers
from_elsewhere d source address e =
    ap (λ b. cond b (by_place d.members (by_index (filter (chooses d source) (slots_of d)))) []) e

-- nobody chose what is muted
none_chose : (d : Desk) (source : ℕ) → is_muted d source ≡ true → (xs : List SlotRow)
    → filter (chooses d source) xs ≡ []
none_chose d source muted xs =
    filter_agree (chooses d source) (λ x. false) (λ x.
    unbarred d source x (wanted d x)
    ∙ and_right (is_this source (wanted d x)) (not (is_barred d x source)) (ap not (barred x))) xs
    ∙ none_pass xs
  where
    barred : (x : SlotRow) → is_barred d x source ≡ true
    barred x = ap (λ b. b || (is_this x.member (sender_of d source) || not (are_in_one_room d x source))) muted

when_muted : (d : Desk) (source : ℕ) (address : Address) → is_muted d source ≡ true → receivers d source address ≡ []
unfolding receivers by_index
when_muted d source address muted =
    ap (λ slots. cond (comes_from d source address) (by_place d.members (by_index slots)) [])
    (none_chose d source muted (slots_of d))
    ∙ by (comes_from d source address)
  where
    by : (b : Bool) → cond b (by_place d.members []) [] ≡ []
    by true = by_place-none d.members
    by false = refl

pub no_receivers : (d : Desk) (source : ℕ) (address : Address) → sender_from d source address ≡ None
    → receivers d source address ≡ []
no_receivers d source address h = by (is_muted d source) refl h
  where
    differs : (b : Bool) (m : MemberRow) → cond b (Some m) None ≡ None → b ≡ false
    differs true m h = absurd (cc)
    differs false m h = refl

    elsewhere : (o : Option MemberRow) → option_and_then (if_at address) o ≡ None → has_address address o ≡ false
    elsewhere None h = refl
    elsewhere (Some m) h = differs (same_address m.address address) m h

    by : (b : Bool) → is_muted d source ≡ b
        → cond b None (option_and_then (if_at address) (option_and_then (member_at d) (sender_of d source))) ≡ None
        → receivers d source address ≡ []
    by true muted h = when_muted d source address muted
    by false muted h =
        from_elsewhere d source address (elsewhere (option_and_then (member_at d) (sender_of d source)) h)
