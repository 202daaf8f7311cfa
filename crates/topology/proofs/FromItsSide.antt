-- The slots that take a source are, place by place, those that chose it.
use Rattle.std.proofs.Common.{◌≡◌, ℕ, ◌<◌, ◌≤◌, Bool, true, false, cond, not, ◌&&◌, ◌||◌, nat_eq, List, [], ◌∷◌, ◌++◌}
use Rattle.std.proofs.Common.{Option, None, Some, length, refl, sym, ap, subst, ◌∙◌, arith, append-nil, eqb-true}
use Rattle.std.specs.Prelude.{filter, option_map, option_and_then}
use Rattle.std.specs.Option.{is_some, is_none, option_or}
use Rattle.std.specs.List.{All, find, filter_map, slice_get}
use Rattle.std.proofs.Math.Bool.{and_comm}
use Rattle.std.proofs.lemmas.Bool.{eq-eqb, both_ways, false_from_ne_true}
use Rattle.std.proofs.lemmas.Bool.Decides.{nat_tests}
use Rattle.std.proofs.lemmas.Option.{cond_some, option_and_then_some, same_Some}
use Rattle.std.proofs.lemmas.List.Elements.{All-head, All-filter, All-append, All-from_recursion, recursion_from_All}
use Rattle.std.proofs.lemmas.List.Elements.{filter_agree, filter_passes}
use Rattle.rtp_codec.specs.declared.address.Address.{Address}
use Rattle.rtp_codec.specs.Address.{same_address}
use Rattle.desk_rows.specs.declared.row.Member.{Member as MemberRow}
use Rattle.desk_rows.specs.declared.row.Slot.{Slot as SlotRow}
use Rattle.desk_rows.specs.declared.row.Sub.{Sub as SubRow}
use Rattle.desk_rows.specs.laws.Equal.{number_itself}
use Rattle.desk_rows.specs.laws.PlacesOnce.{of_member, of_index, at_place, one_at_place}
use Rattle.desk_rows.specs.Desk.{Desk, good}
use Rattle.desk_rows.specs.Naming.{members_in, subs_naming}
use Rattle.topology.specs.Looking.{member_at, slot_at, subscribed, is_muted, is_this, sender_of, has_address}
use Rattle.topology.specs.Looking.{comes_from}
use Rattle.topology.specs.Choice.{shown, shown_on, are_in_one_room, is_barred, unless_barred}
use Rattle.topology.specs.Receivers.{slots_of, chooses}
use Rattle.topology.specs.inner.Takers.{if_at, sender_from, unless_own, subscriber, first_slot, unless_subscribed}
use Rattle.topology.specs.inner.Takers.{viewer, AreShown, takers}
use Rattle.topology.proofs.Distinct.{at}
use Rattle.topology.proofs.Finding.{found_key, of_found, it_is}
use Rattle.topology.proofs.Rising.{Found, all_found, apart}
use Rattle.topology.proofs.KindRows.{subs_of, number, slot_ssrc, sub_ssrc, slot_row, sub_row, member_row}
use Rattle.topology.proofs.GoodRows.{slots_rise, subs_rise, slots_distinct, members_distinct, no_members}
use Rattle.topology.proofs.GoodRows.{index_few, its_member}
use Rattle.topology.proofs.RoomsOf.{number_of_found}
use Rattle.topology.proofs.Shown.{shown_sender}
use Rattle.topology.proofs.InRoom.{sub_in_one_room, shown_in_one_room}
use Rattle.topology.proofs.Parted.{filter-and, filter-filter, filter-filter_map, none_pass, listed, one_of_key}
use Rattle.topology.proofs.Parted.{found_front, found_passes, All-filter_map, at_place-append}

-- ---- who sends

-- the member who sends a source from an address, which is not muted
pub record IsHeardFrom (d : Desk) (source : ℕ) (address : Address) (sender : MemberRow) : Type 0 where
  pub quiet : is_muted d source ≡ false
  pub sends : sender_of d source ≡ Some sender.member
  pub there : member_at d sender.member ≡ Some sender
  pub comes : comes_from d source address ≡ true

pub who_is_heard : (d : Desk) (source : ℕ) (address : Address) (sender : MemberRow)
    → sender_from d source address ≡ Some sender → IsHeardFrom d source address sender
who_is_heard d source address sender h = by (is_muted d source) refl h
  where
    by : (b : Bool) → is_muted d source ≡ b
        → cond b None (option_and_then (if_at address) (option_and_then (member_at d) (sender_of d source)))
        ≡ Some sender
        → IsHeardFrom d source address sender
    by true quiet h = absurd (cc)
    by false quiet h =
        option_and_then_some (if_at address) (option_and_then (member_at d) (sender_of d source)) sender h
        (λ m found at.
        option_and_then_some (member_at d) (sender_of d source) m found (λ n sends there.
        let both = cond_some (same_address m.address address) m sender at in
        let its : n ≡ sender.member = sym (number_of_found d n m there) ∙ ap (λ (m : MemberRow). m.member) both.1 in
        record {
          quiet = quiet;
          sends = sends ∙ ap Some its;
          there = sym (ap (member_at d) its) ∙ there ∙ ap Some both.1;
          comes = ap (has_address address) found ∙ both.0;
        }))

-- ---- what a slot chose

-- the source is chosen where the slot would get it, and it isn't barred
pub unbarred : (d : Desk) (source : ℕ) (x : SlotRow) (o : Option ℕ)
    → is_this source (option_and_then (unless_barred d x) o) ≡ (is_this source o && not (is_barred d x source))
unbarred d source x None = refl
unbarred d source x (Some n) = by (nat_eq n source) refl
  where
    other : (b : Bool) → nat_eq n source ≡ false → is_this source (cond b None (Some n)) ≡ false
    other true e = refl
    other false e = e

    same : (b : Bool) → is_this source (cond b None (Some source)) ≡ not b
    same true = refl
    same false = number_itself source

    by : (b : Bool) → nat_eq n source ≡ b
        → is_this source (unless_barred d x n) ≡ (b && not (is_barred d x source))
    by true e =
        ap (λ n. is_this source (unless_barred d x n)) (eqb-true n source e) ∙ same (is_barred d x source)
    by false e = other (is_barred d x n) e

-- in one room with what it would get, a slot chooses all but the sources of its own member
of_wanted : (d : Desk) (source : ℕ) (address : Address) (sender : MemberRow) → IsHeardFrom d source address sender
    → (x : SlotRow) (o : Option ℕ) → (o ≡ Some source → are_in_one_room d x source ≡ true)
    → is_this source (option_and_then (unless_barred d x) o) ≡ (is_this source o && not (nat_eq x.member sender.member))
of_wanted d source address sender h x o near = unbarred d source x o ∙ by (is_this source o) refl
  where
    turned : (a b : ℕ) → (nat_eq a b || false) ≡ nat_eq b a
    turned a b = grind (arith, nat_tests)

    by : (b : Bool) → is_this source o ≡ b
        → (b && not (is_barred d x source)) ≡ (b && not (nat_eq x.member sender.member))
    by true e =
        let reach = near (it_is source o e) in
        ap not ((λ i. h.quiet i || (is_this x.member (h.sends i) || not (reach i))) ∙ turned sender.member x.member)
    by false e = refl

-- ---- by subscriptions

-- the slot is in the place
abbrev placed : ℕ → ℕ → SlotRow → Bool
placed k index s = of_index index s && of_member k s

-- those that take the source in a place do so by the subscriptions of the slots there
abbrev of_slots : ℕ → Desk → List SlotRow → List SubRow
of_slots source d slots = filter (λ y. is_some (at slot_ssrc y.out_ssrc slots)) (subs_naming d source)

-- the slot of a subscription is there
its_slot_there : (d : Desk) (sender : MemberRow) (y : SubRow) (s : SlotRow) → subscriber d sender y ≡ Some s
    → at slot_ssrc y.out_ssrc (slots_of d) ≡ Some s
its_slot_there d sender y s h =
    option_and_then_some (unless_own sender) (slot_at d y.out_ssrc) s h (λ x there own.
    sym (slot_row d y.out_ssrc) ∙ there ∙ not_own (nat_eq x.member sender.member) x own)
  where
    not_own : (b : Bool) (x : SlotRow) → cond b None (Some x) ≡ Some s → Some x ≡ Some s
    not_own true x h = absurd (cc)
    not_own false x h = h

subs_at : (d : Desk) (source : ℕ) (sender : MemberRow) (k index : ℕ) → good d ≡ true
    → at_place k index (filter_map (subscriber d sender) (subs_naming d source))
    ≡ filter_map (subscriber d sender) (of_slots source d (at_place k index (slots_of d)))
subs_at d source sender k index g =
    sym (filter-and (of_index index) (of_member k) (filter_map (subscriber d sender) (subs_naming d source)))
    ∙ filter-filter_map (subscriber d sender) (placed k index)
    (λ y. is_some (at slot_ssrc y.out_ssrc (at_place k index (slots_of d)))) same (subs_naming d source)
  where
    same : (y : SubRow) (s : SlotRow) → subscriber d sender y ≡ Some s
        → placed k index s ≡ is_some (at slot_ssrc y.out_ssrc (at_place k index (slots_of d)))
    same y s h =
        found_passes slot_ssrc (placed k index) y.out_ssrc s (slots_of d) (slots_distinct d g)
        (its_slot_there d sender y s h)
        ∙ ap (λ xs. is_some (at slot_ssrc y.out_ssrc xs)) (filter-and (of_index index) (of_member k) (slots_of d))

-- of one slot that is its subscription, if it names the source
sub_of_one : (d : Desk) (source : ℕ) (x : SlotRow) → good d ≡ true
    → of_slots source d (x ∷ []) ≡ filter (λ y. nat_eq y.source source) (listed (at sub_ssrc x.out_ssrc (subs_of d)))
sub_of_one d source x g =
    filter_agree (λ y. is_some (cond (nat_eq x.out_ssrc y.out_ssrc) (Some x) None)) (λ y. nat_eq y.out_ssrc x.out_ssrc)
    (λ y. there (nat_eq x.out_ssrc y.out_ssrc) ∙ turned x.out_ssrc y.out_ssrc) (subs_naming d source)
    ∙ filter-filter (λ y. nat_eq y.out_ssrc x.out_ssrc) (λ y. nat_eq y.source source) (subs_of d)
    ∙ ap (filter (λ y. nat_eq y.source source))
    (one_of_key sub_ssrc x.out_ssrc (subs_of d) (apart sub_ssrc (subs_of d) (subs_rise d g)))
  where
    there : (b : Bool) → is_some (cond b (Some x) None) ≡ b
    there true = refl
    there false = refl

    turned : (a b : ℕ) → nat_eq a b ≡ nat_eq b a
    turned a b = grind (arith, nat_tests)

-- ---- by what the room shows

-- the slot has no subscription
abbrev is_free : Desk → SlotRow → Bool
is_free d s = is_none (subscribed d s.out_ssrc)

-- the member sees what the sender's room shows, if it shows the source
abbrev sees : Bool → MemberRow → Option MemberRow → Bool
sees b sender None = false
sees b sender (Some m) = b && (nat_eq m.room sender.room && not (nat_eq m.member sender.member))

-- of these slots of a place, those that are shown it
abbrev viewing : Desk → ℕ → Bool → List SlotRow → List SlotRow
viewing d index b slots = cond b (filter (is_free d) (cond (nat_eq index 0) slots [])) []

-- a list of one at most is what is found there
found_one : {X : Type 0} (p : X → Bool) (xs : List X) → length (filter p xs) ≤ 1 → listed (find p xs) ≡ filter p xs
found_one {X = X} p xs few = ap listed (found_front p xs) ∙ alone (filter p xs) few
  where
    alone : (ys : List X) → length ys ≤ 1 → listed (slice_get ys 0) ≡ ys
    alone [] few = refl
    alone (y ∷ []) few = refl
    alone (y ∷ z ∷ ys) few = absurd (omega arith)

-- what is of index 0 and of another is that other, or nothing
of_both : (index : ℕ) (xs : List SlotRow)
    → filter (of_index index) (filter (of_index 0) xs) ≡ cond (nat_eq index 0) (filter (of_index index) xs) []
of_both index xs =
    sym (filter-and (of_index index) (of_index 0) xs)
    ∙ filter_agree (λ x. of_index index x && of_index 0 x) (λ x. nat_eq index 0 && of_index index x)
    (λ x. both index x.index) xs
    ∙ by (nat_eq index 0)
  where
    both : (a b : ℕ) → (nat_eq b a && nat_eq b 0) ≡ (nat_eq a 0 && nat_eq b a)
    both a b = grind (arith, nat_tests)

    by : (b : Bool) → filter (λ x. b && of_index index x) xs ≡ cond b (filter (of_index index) xs) []
    by true = refl
    by false = none_pass xs

-- the first slot of a member, if it has no subscription, in the places of an index
first_at : (d : Desk) (k index : ℕ) → good d ≡ true
    → filter (of_index index) (listed (option_and_then (unless_subscribed d) (first_slot d k)))
    ≡ viewing d index true (at_place k index (slots_of d))
first_at d k index g =
    ap (filter (of_index index)) (free (first_slot d k)
    ∙ ap (filter (is_free d)) (found_one (of_index 0) (filter (of_member k) (slots_of d)) (one_at_place d k 0 g)))
    ∙ filter-filter (of_index index) (is_free d) (at_place k 0 (slots_of d))
    ∙ ap (filter (is_free d)) (of_both index (filter (of_member k) (slots_of d)))
  where
    free : (o : Option SlotRow) → listed (option_and_then (unless_subscribed d) o) ≡ filter (is_free d) (listed o)
    free None = refl
    free (Some x) = by (is_free d x)
      where
        by : (b : Bool) → listed (cond b (Some x) None) ≡ cond b (x ∷ []) []
        by true = refl
        by false = refl

-- who views is the slot of index 0 of the member
who_views : (d : Desk) (sender m : MemberRow) (s : SlotRow) → viewer d sender m ≡ Some s
    → (s.index ≡ 0) × (s.member ≡ m.member)
who_views d sender m s h = by (nat_eq m.room sender.room && not (nat_eq m.member sender.member)) h
  where
    by : (b : Bool) → cond b (option_and_then (unless_subscribed d) (first_slot d m.member)) None ≡ Some s
        → (s.index ≡ 0) × (s.member ≡ m.member)
    by false h = absurd (cc)
    by true h =
        option_and_then_some (unless_subscribed d) (first_slot d m.member) s h (λ x found free.
        let own = filter (of_member m.member) (slots_of d) in
        let passes = recursion_from_All (λ x. of_member m.member x ≡ true) own
        (filter_passes (of_member m.member) (slots_of d)) in
        let passed = of_found (λ x. of_member m.member x ≡ true) (of_index 0) x own passes found in
        let is = sym (cond_some (is_free d x) x s free).1 in (
          ap (λ (x : SlotRow). x.index) is ∙ eqb-true x.index 0 passed.1,
          ap (λ (x : SlotRow). x.member) is ∙ eqb-true x.member m.member passed.0,
        ))

viewers_at : (d : Desk) (source : ℕ) (sender : MemberRow) (ms : List MemberRow) (k index : ℕ) → good d ≡ true
    → AreShown d source sender.room ms
    → at_place k index (filter_map (viewer d sender) ms)
    ≡ viewing d index (sees (is_this source (shown d sender.room)) sender (member_at d k))
    (at_place k index (slots_of d))
viewers_at d source sender ms k index g are =
    ap (filter (of_index index)) (filter-filter_map (viewer d sender) (of_member k) (λ m. nat_eq m.member k)
    (λ m s h. ap (λ n. nat_eq n k) (who_views d sender m s h).1) ms
    ∙ ap (filter_map (viewer d sender)) (are k ∙ its (is_this source (shown d sender.room))))
    ∙ by (member_at d k) refl
  where
    its : (b : Bool)
        → filter (λ m. nat_eq m.member k) (cond b (members_in d sender.room) [])
        ≡ cond b (filter (λ m. nat_eq m.room sender.room) (listed (member_at d k))) []
    its true =
        filter-filter (λ m. nat_eq m.member k) (λ m. nat_eq m.room sender.room) d.members
        ∙ ap (filter (λ m. nat_eq m.room sender.room)) (one_of_key number k d.members (members_distinct d g)
        ∙ sym (ap listed (member_row d k (no_members d g))))
    its false = refl

    none : (b : Bool)
        → filter (of_index index)
        (filter_map (viewer d sender) (cond b (filter (λ m. nat_eq m.room sender.room) []) []))
        ≡ []
    none true = refl
    none false = refl

    one : (m : MemberRow) (b r other : Bool)
        → viewer d sender m ≡ cond (r && other) (option_and_then (unless_subscribed d) (first_slot d k)) None
        → filter (of_index index) (filter_map (viewer d sender) (cond b (cond r (m ∷ []) []) []))
        ≡ viewing d index (b && (r && other)) (at_place k index (slots_of d))
    one m false r other e = refl
    one m true false other e = refl
    one m true true false e = ap (λ o. filter (of_index index) (listed o)) e
    one m true true true e = ap (λ o. filter (of_index index) (listed o)) e ∙ first_at d k index g

    by : (o : Option MemberRow) → member_at d k ≡ o
        → filter (of_index index)
        (filter_map (viewer d sender)
        (cond (is_this source (shown d sender.room)) (filter (λ m. nat_eq m.room sender.room) (listed o)) []))
        ≡ viewing d index (sees (is_this source (shown d sender.room)) sender o) (at_place k index (slots_of d))
    by None there = none (is_this source (shown d sender.room))
    by (Some m) there =
        one m (is_this source (shown d sender.room)) (nat_eq m.room sender.room) (not (nat_eq m.member sender.member))
        (ap
        (λ n.
        cond (nat_eq m.room sender.room && not (nat_eq m.member sender.member))
        (option_and_then (unless_subscribed d) (first_slot d n)) None)
        (number_of_found d k m there))

-- ---- by either

-- what a member's room shows it that isn't its own source, the sender's room shows to it
one_room : (d : Desk) (source : ℕ) (address : Address) (sender m : MemberRow) → good d ≡ true
    → IsHeardFrom d source address sender
    → (is_this source (shown d sender.room) && nat_eq m.room sender.room) ≡ is_this source (shown d m.room)
one_room d source address sender m g h = told (nat_eq m.room sender.room) refl
  where
    its : is_this source (shown d m.room) ≡ true → nat_eq m.room sender.room ≡ true
    its shows =
        let there = shown_sender d m.room source sender.member g (it_is source (shown d m.room) shows) h.sends in
        eq-eqb m.room sender.room
        (sym (same_Some sender.room m.room (sym (ap (option_map (λ (m : MemberRow). m.room)) h.there) ∙ there)))

    told : (b : Bool) → nat_eq m.room sender.room ≡ b
        → (is_this source (shown d sender.room) && b) ≡ is_this source (shown d m.room)
    told true e =
        and_comm (is_this source (shown d sender.room)) true
        ∙ ap (λ r. is_this source (shown d r)) (sym (eqb-true m.room sender.room e))
    told false e =
        and_comm (is_this source (shown d sender.room)) false
        ∙ sym
        (false_from_ne_true (is_this source (shown d m.room)) (λ shows.
        both_ways (nat_eq m.room sender.room) e (its shows)))

-- a slot of a place takes the source if it chose the source
one_slot : (d : Desk) (source : ℕ) (address : Address) (sender m : MemberRow) (x : SlotRow) → good d ≡ true
    → IsHeardFrom d source address sender → slot_at d x.out_ssrc ≡ Some x → member_at d x.member ≡ Some m
    → filter_map (subscriber d sender) (of_slots source d (x ∷ []))
    ++ viewing d x.index (sees (is_this source (shown d sender.room)) sender (member_at d x.member)) (x ∷ [])
    ≡ filter (chooses d source) (x ∷ [])
one_slot d source address sender m x g h found there =
    (λ i.
    filter_map (subscriber d sender) (sub_of_one d source x g i)
    ++ viewing d x.index (sees (is_this source (shown d sender.room)) sender (there i)) (x ∷ []))
    ∙ by (at sub_ssrc x.out_ssrc (subs_of d)) refl (sub_row d x.out_ssrc)
  where
    shows : Bool
    shows = is_this source (shown d sender.room)

    viewing_at : Bool → Bool → List SlotRow
    viewing_at z b = cond b (filter (is_free d) (cond z (x ∷ []) [])) []

    -- who has no subscription is shown the source
    viewed : (b r o z : Bool) → is_free d x ≡ true
        → viewing_at z (b && (r && o)) ≡ cond (cond z (b && r) false && o) (x ∷ []) []
    viewed true true true true free = ap (λ c. cond c (x ∷ []) []) free
    viewed true true true false free = refl
    viewed true true false true free = refl
    viewed true true false false free = refl
    viewed true false o true free = refl
    viewed true false o false free = refl
    viewed false r o true free = refl
    viewed false r o false free = refl

    unseen : (b z : Bool) → is_free d x ≡ false → viewing_at z b ≡ []
    unseen true true taken = ap (λ c. cond c (x ∷ []) []) taken
    unseen true false taken = refl
    unseen false z taken = refl

    -- who has one takes the source by it
    named : (b own : Bool) (y : SubRow) → subscriber d sender y ≡ cond own None (Some x)
        → filter_map (subscriber d sender) (cond b (y ∷ []) []) ≡ cond (b && not own) (x ∷ []) []
    named true true y is = ap listed is
    named true false y is = ap listed is
    named false own y is = refl

    shown_at : (z : Bool)
        → is_this source
        (cond z (option_and_then (shown d) (option_map (λ (m : MemberRow). m.room) (member_at d x.member))) None)
        ≡ cond z (shows && nat_eq m.room sender.room) false
    shown_at true =
        ap (λ o. is_this source (option_and_then (shown d) (option_map (λ (m : MemberRow). m.room) o))) there
        ∙ sym (one_room d source address sender m g h)
    shown_at false = refl

    by : (o : Option SubRow) → at sub_ssrc x.out_ssrc (subs_of d) ≡ o
        → subscribed d x.out_ssrc ≡ option_map (λ (s : SubRow). s.source) o
        → filter_map (subscriber d sender) (filter (λ y. nat_eq y.source source) (listed o))
        ++ viewing_at (nat_eq x.index 0) (shows && (nat_eq m.room sender.room && not (nat_eq m.member sender.member)))
        ≡ cond (chooses d source x) (x ∷ []) []
    by None is sub =
        let chose =
        ap (λ o. is_this source (option_and_then (unless_barred d x) (option_or o (shown_on d x)))) sub
        ∙ of_wanted d source address sender h x (shown_on d x) (shown_in_one_room d source x g)
        ∙ (λ i.
        shown_at (nat_eq x.index 0) i && not (nat_eq (sym (number_of_found d x.member m there) i) sender.member)) in
        viewed shows (nat_eq m.room sender.room) (not (nat_eq m.member sender.member)) (nat_eq x.index 0)
        (ap is_none sub)
        ∙ sym (ap (λ b. cond b (x ∷ []) []) chose)
    by (Some y) is sub =
        let key = found_key sub_ssrc x.out_ssrc y (subs_of d) is in
        let takes =
        ap (λ n. option_and_then (unless_own sender) (slot_at d n)) key
        ∙ ap (option_and_then (unless_own sender)) found in
        let chose =
        ap (λ o. is_this source (option_and_then (unless_barred d x) (option_or o (shown_on d x)))) sub
        ∙ of_wanted d source address sender h x (Some y.source)
        (λ its. sub_in_one_room d source x g found (sub ∙ its)) in
        (λ i.
        named (nat_eq y.source source) (nat_eq x.member sender.member) y takes i
        ++ unseen (shows && (nat_eq m.room sender.room && not (nat_eq m.member sender.member))) (nat_eq x.index 0)
        (ap is_none sub) i)
        ∙ append-nil (cond (nat_eq y.source source && not (nat_eq x.member sender.member)) (x ∷ []) [])
        ∙ sym (ap (λ b. cond b (x ∷ []) []) chose)

-- place by place, those that take a source are those that chose it
pub taken_at : (d : Desk) (source : ℕ) (address : Address) (sender : MemberRow) (ms : List MemberRow) → good d ≡ true
    → IsHeardFrom d source address sender → AreShown d source sender.room ms → (k index : ℕ)
    → at_place k index (takers d source sender ms) ≡ filter (chooses d source) (at_place k index (slots_of d))
taken_at d source address sender ms g h are k index =
    at_place-append k index (filter_map (subscriber d sender) (subs_naming d source)) (filter_map (viewer d sender) ms)
    ∙ (λ i. subs_at d source sender k index g i ++ viewers_at d source sender ms k index g are i)
    ∙ by (at_place k index (slots_of d)) refl (one_at_place d k index g)
  where
    shows : Bool
    shows = sees (is_this source (shown d sender.room)) sender (member_at d k)

    -- what is true of all slots, and of those of the member and of the index
    all : (P : SlotRow → Type 0) → All P (slots_of d) → All P (at_place k index (slots_of d))
    all P each =
        All-filter (of_index index) P (filter (of_member k) (slots_of d))
        (All-filter (of_member k) P (slots_of d) each)

    nobody : (b z : Bool) → cond b (filter (is_free d) (cond z [] [])) [] ≡ []
    nobody true true = refl
    nobody true false = refl
    nobody false z = refl

    by : (slots : List SlotRow) → at_place k index (slots_of d) ≡ slots → length slots ≤ 1
        → filter_map (subscriber d sender) (of_slots source d slots) ++ viewing d index shows slots
        ≡ filter (chooses d source) slots
    by [] is few =
        (λ i. filter_map (subscriber d sender) (none_pass (subs_naming d source) i) ++ nobody shows (nat_eq index 0) i)
    by (x ∷ []) is few =
        let found = All-head (Found slot_ssrc (slots_of d)) x [] (subst (All (Found slot_ssrc (slots_of d))) is
        (all (Found slot_ssrc (slots_of d)) (All-from_recursion (Found slot_ssrc (slots_of d)) (slots_of d)
        (all_found slot_ssrc (slots_of d) (slots_rise d g))))) in
        let its_index = All-head (λ (x : SlotRow). of_index index x ≡ true) x []
        (subst (All (λ (x : SlotRow). of_index index x ≡ true)) is
        (filter_passes (of_index index) (filter (of_member k) (slots_of d)))) in
        let its_number = All-head (λ (x : SlotRow). of_member k x ≡ true) x []
        (subst (All (λ (x : SlotRow). of_member k x ≡ true)) is
        (All-filter (of_index index) (λ x. of_member k x ≡ true) (filter (of_member k) (slots_of d))
        (filter_passes (of_member k) (slots_of d)))) in
        let mine = its_member d x.out_ssrc x g found in
        (λ i.
        filter_map (subscriber d sender) (of_slots source d (x ∷ []))
        ++ viewing d (sym (eqb-true x.index index its_index) i)
        (sees (is_this source (shown d sender.room)) sender (member_at d (sym (eqb-true x.member k its_number) i)))
        (x ∷ []))
        ∙ one_slot d source address sender mine.0 x g h (slot_row d x.out_ssrc ∙ found) mine.1
    by (x ∷ y ∷ xs) is few = absurd (omega arith)

-- they have indexes from 0 to 15
pub takers_few : (d : Desk) (source : ℕ) (sender : MemberRow) (ms : List MemberRow) → good d ≡ true
    → All (λ (s : SlotRow). s.index < 16) (takers d source sender ms)
takers_few d source sender ms g =
    All-append (λ (s : SlotRow). s.index < 16) (filter_map (subscriber d sender) (subs_naming d source))
    (filter_map (viewer d sender) ms)
    (All-filter_map (subscriber d sender) (λ (s : SlotRow). s.index < 16)
    (λ y s h. index_few d y.out_ssrc s g (its_slot_there d sender y s h)) (subs_naming d source))
    (All-filter_map (viewer d sender) (λ (s : SlotRow). s.index < 16)
    (λ m s h. let first = (who_views d sender m s h).0 in omega (arith, first)) ms)
