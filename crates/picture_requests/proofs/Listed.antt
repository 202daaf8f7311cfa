-- The choices of a desk are those of its slots.
use Rattle.std.proofs.Common.{◌≡◌, ℕ, Bool, true, false, cond, ◌||◌, List, [], ◌∷◌, Option, None, Some, refl, sym, ap}
use Rattle.std.proofs.Common.{subst, ◌∙◌}
use Rattle.std.specs.Prelude.{option_map, option_and_then, filter}
use Rattle.std.specs.Option.{is_some}
use Rattle.std.specs.List.{find, filter_map, cons_option, list_any}
use Rattle.desk_rows.specs.declared.row.Row.{Row}
use Rattle.desk_rows.specs.declared.row.Row.TheVariants.{Room, Member, Source, Slot, Sub, Mute, Gain, Pin, Floor}
use Rattle.desk_rows.specs.declared.row.Slot.{Slot as SlotRow}
use Rattle.desk_rows.specs.declared.key.Kind.TheVariants as kinds
use Rattle.desk_rows.specs.Kinds.{is_of}
use Rattle.desk_rows.specs.Getters.{slot_in}
use Rattle.desk_rows.specs.Desk.{Desk}
use Rattle.topology.specs.Looking.{slot_at}
use Rattle.topology.specs.Choice.{chosen}
use Rattle.topology.specs.Receivers.{slots_of}
use Rattle.topology.proofs.KindRows.{of_kind, slot_row, slot_ssrc}
use Rattle.topology.proofs.Finding.{found_key}
use Rattle.picture_requests.specs.declared.source.VideoSource.{VideoSource}
use Rattle.picture_requests.specs.declared.choosing.SlotChoice.{SlotChoice}
use Rattle.picture_requests.specs.Choices.{source_of_desk, chosen_source, slot_choice, choices_of, same_choice}
use Rattle.picture_requests.proofs.Same.{choice_is, choice_itself}

-- ---- from the rows

is_slot : (r : Row) → is_of kinds.Slot r ≡ is_some (slot_in r)
is_slot (Room r) = refl
is_slot (Member r) = refl
is_slot (Source r) = refl
is_slot (Slot r) = refl
is_slot (Sub r) = refl
is_slot (Mute r) = refl
is_slot (Gain r) = refl
is_slot (Pin r) = refl
is_slot (Floor r) = refl

pub from_rows : (d : Desk)
    → filter_map (λ r. option_and_then (slot_choice d) (slot_in r)) (filter (is_of kinds.Slot) d.others) ≡ choices_of d
from_rows d =
    of_kind slot_in (is_of kinds.Slot) (λ r. option_and_then (slot_choice d) (slot_in r)) (slot_choice d) is_slot
    (λ r x e. ap (option_and_then (slot_choice d)) e) d.others

-- ---- each choice is listed, and no other

or_later : (a b : Bool) → b ≡ true → (a || b) ≡ true
or_later true b h = refl
or_later false b h = h

-- what is made of one that is found is among what is made of all
made_of : {X : Type 0} (f : X → Option SlotChoice) (p : X → Bool) (x : X) (c : SlotChoice) (xs : List X)
    → find p xs ≡ Some x → f x ≡ Some c → list_any (same_choice c) (filter_map f xs) ≡ true
made_of f p x c [] h e = absurd (cc)
made_of f p x c (y ∷ ys) h e = by (p y) h (λ later. made_of f p x c ys later e)
  where
    first : (o : Option SlotChoice) → o ≡ Some c → list_any (same_choice c) (cons_option o (filter_map f ys)) ≡ true
    first None k = absurd (cc)
    first (Some z) k =
        (let same : z ≡ c = cc in
        ap (λ w. same_choice c w || list_any (same_choice c) (filter_map f ys)) same
        ∙ ap (λ b. b || list_any (same_choice c) (filter_map f ys)) (choice_itself c))

    behind : (o : Option SlotChoice) → list_any (same_choice c) (filter_map f ys) ≡ true
        → list_any (same_choice c) (cons_option o (filter_map f ys)) ≡ true
    behind None k = k
    behind (Some z) k = or_later (same_choice c z) (list_any (same_choice c) (filter_map f ys)) k

    by : (b : Bool) → cond b (Some y) (find p ys) ≡ Some x
        → (find p ys ≡ Some x → list_any (same_choice c) (filter_map f ys) ≡ true)
        → list_any (same_choice c) (filter_map f (y ∷ ys)) ≡ true
    by true h rest = (let same : y ≡ x = cc in first (f y) (ap f same ∙ e))
    by false h rest = behind (f y) (rest h)

-- a slot's choice is listed
pub listed : (d : Desk) (out_ssrc : ℕ) (s : VideoSource) → chosen_source d out_ssrc ≡ Some s
    → list_any (same_choice (record { out_ssrc = out_ssrc; source = s })) (choices_of d) ≡ true
listed d out_ssrc s h = by (slot_at d out_ssrc) refl
  where
    by : (o : Option SlotRow) → slot_at d out_ssrc ≡ o
        → list_any (same_choice (record { out_ssrc = out_ssrc; source = s })) (choices_of d) ≡ true
    by None e =
        absurd (let none : None ≡ Some s =
        sym (ap (λ o. option_and_then (source_of_desk d) (option_and_then (chosen d) o)) e) ∙ h in
        cc)
    by (Some slot) e =
        let found = sym (slot_row d out_ssrc) ∙ e in
        let number : slot.out_ssrc ≡ out_ssrc = found_key slot_ssrc out_ssrc slot (slots_of d) found in
        made_of (slot_choice d) _ slot (record { out_ssrc = out_ssrc; source = s }) (slots_of d) found
        ((λ i.
        option_map (λ (t : VideoSource). (let c : SlotChoice = record { out_ssrc = number i; source = t } in c))
        (chosen_source d (number i)))
        ∙ ap (option_map (λ (t : VideoSource). (let c : SlotChoice = record { out_ssrc = out_ssrc; source = t } in c)))
        h)

-- what is listed is a slot's choice
chose_among : (d : Desk) (c : SlotChoice) (slots : List SlotRow)
    → list_any (same_choice c) (filter_map (slot_choice d) slots) ≡ true → chosen_source d c.out_ssrc ≡ Some c.source
chose_among d c [] h = absurd (cc)
chose_among d c (y ∷ ys) h = by (chosen_source d y.out_ssrc) refl h (chose_among d c ys)
  where
    one : (s : VideoSource) → chosen_source d y.out_ssrc ≡ Some s → (b : Bool)
        → same_choice c (record { out_ssrc = y.out_ssrc; source = s }) ≡ b
        → (b || list_any (same_choice c) (filter_map (slot_choice d) ys)) ≡ true
        → (list_any (same_choice c) (filter_map (slot_choice d) ys) ≡ true → chosen_source d c.out_ssrc ≡ Some c.source)
        → chosen_source d c.out_ssrc ≡ Some c.source
    one s e true t h rest =
        subst (λ (x : SlotChoice). chosen_source d x.out_ssrc ≡ Some x.source)
        (sym (choice_is c (record { out_ssrc = y.out_ssrc; source = s }) t)) e
    one s e false t h rest = rest h

    by : (o : Option VideoSource) → chosen_source d y.out_ssrc ≡ o
        → list_any (same_choice c) (cons_option
        (option_map (λ (t : VideoSource). (let k : SlotChoice = record { out_ssrc = y.out_ssrc; source = t } in k)) o)
        (filter_map (slot_choice d) ys))
        ≡ true
        → (list_any (same_choice c) (filter_map (slot_choice d) ys) ≡ true → chosen_source d c.out_ssrc ≡ Some c.source)
        → chosen_source d c.out_ssrc ≡ Some c.source
    by None e h rest = rest h
    by (Some s) e h rest = one s e (same_choice c (record { out_ssrc = y.out_ssrc; source = s })) refl h rest

pub chose : (d : Desk) (c : SlotChoice) → list_any (same_choice c) (choices_of d) ≡ true
    → chosen_source d c.out_ssrc ≡ Some c.source
chose d c h = chose_among d c (slots_of d) h
