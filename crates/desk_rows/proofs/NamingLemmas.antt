-- What a table has in a group: the subscriptions of a source, and the slots of a member.
use Rattle.std.specs.Prelude.{◌≡◌, ◌∷◌}
use Rattle.desk_rows.specs.laws.Words.{ℕ, Bool, true, List, [], Option, None, Some, refl, sym, ap, ◌∙◌, arith, nat_eq}
use Rattle.desk_rows.specs.laws.Words.{filter, eqb-true, nat_le, and_parts, and_from, nat_tests, list_all, filter_map}
use Rattle.desk_rows.specs.laws.Words.{cons_option, IsNonDecreasingBy, Row, Slot, Sub, SlotRow, SubRow, Desk, good}
use Rattle.desk_rows.specs.laws.Words.{slot_in, sub_in, subs_naming, slots_naming, in_order, precedes, same_row}
use Rattle.desk_rows.specs.laws.Words.{stand_by, IsTableOf}
use Rattle.desk_rows.specs.laws.Equal.{same_row_is, row_itself}
use Rattle.desk_rows.specs.laws.Laws.{good_order}
use Rattle.desk_rows.specs.laws.ListLaws.{SameCounts, same_filtered, same_short, all_pass, stand_by-filter}
use Rattle.desk_rows.specs.laws.NamingLaws.{its_sub}
use Rattle.desk_rows.specs.laws.PlacesOnce.{one_at_place}
use Rattle.desk_rows.proofs.GroupLemmas.{count_in, by, same_list, turns_rise, rises_by}

-- a table has what is in the rows
same_in : {X : Type 0} (in_row : Row → Option X) (group turn : X → ℕ) (rows : List Row) (table : List X)
    → IsTableOf in_row group turn rows table → SameCounts table (filter_map in_row rows)
same_in in_row group turn rows table h p = h.same p ∙ sym (count_in in_row p rows)

-- ---- subscriptions

abbrev source_of : SubRow → ℕ
source_of s = s.source

abbrev ssrc_of : SubRow → ℕ
ssrc_of s = s.out_ssrc

sub_stands : (a : SubRow) (r : Row) (o : Option SubRow) → sub_in r ≡ o → precedes (Sub a) r ≡ true → (xs : List SubRow)
    → list_all (by ssrc_of a) xs ≡ true → list_all (by ssrc_of a) (cons_option o xs) ≡ true
sub_stands a r None e h xs rest = rest
sub_stands a r (Some s) e h xs rest =
    and_from _ _ (less a.out_ssrc s.out_ssrc (sym (ap (precedes (Sub a)) (its_sub r s e)) ∙ h)) rest
  where
    less : (m n : ℕ)
        → precedes (Sub (record { out_ssrc = m; source = 0 })) (Sub (record { out_ssrc = n; source = 0 })) ≡ true
        → nat_le m n ≡ true
    less m n h = grind (arith, nat_tests, h)

subs_behind : (a : SubRow) (rs : List Row) → list_all (precedes (Sub a)) rs ≡ true
    → list_all (by ssrc_of a) (filter_map sub_in rs) ≡ true
subs_behind a [] h = refl
subs_behind a (r ∷ rs) h =
    let both = and_parts (precedes (Sub a) r) (list_all (precedes (Sub a)) rs) h in
    sub_stands a r (sub_in r) refl both.0 (filter_map sub_in rs) (subs_behind a rs both.1)

subs_stand : (rs : List Row) → in_order rs ≡ true → stand_by (by ssrc_of) (filter_map sub_in rs) ≡ true
subs_stand [] h = refl
subs_stand (r ∷ rs) h = one (sub_in r) refl (subs_stand rs parts.1)
  where
    parts : (list_all (precedes r) rs ≡ true) × (in_order rs ≡ true)
    parts = and_parts (list_all (precedes r) rs) (in_order rs) h

    one : (o : Option SubRow) → sub_in r ≡ o → stand_by (by ssrc_of) (filter_map sub_in rs) ≡ true
        → stand_by (by ssrc_of) (cons_option o (filter_map sub_in rs)) ≡ true
    one None e rest = rest
    one (Some s) e rest =
        and_from _ _ (subs_behind s rs (sym (ap (λ q. list_all (precedes q) rs) (its_sub r s e)) ∙ parts.0)) rest

-- subscriptions to one source are told apart by their slots
told_apart : (source : ℕ) (a b : SubRow) → nat_eq a.source source ≡ true → nat_eq b.source source ≡ true
    → a.out_ssrc ≡ b.out_ssrc → a ≡ b
told_apart source a b h k e =
    (let same : a.source ≡ b.source = eqb-true _ _ h ∙ sym (eqb-true _ _ k) in
    λ i. record { out_ssrc = e i; source = same i })

pub subs_in_table : (d : Desk) (source : ℕ) (table : List SubRow) → good d ≡ true
    → IsTableOf sub_in source_of ssrc_of d.others table
    → filter (λ s. nat_eq s.source source) table ≡ subs_naming d source
subs_in_table d source table g h =
    let is : SubRow → Bool = λ s. nat_eq s.source source in
    same_list ssrc_of is (told_apart source) (filter is table) (filter is (filter_map sub_in d.others))
    (turns_rise source_of ssrc_of source table h.order)
    (stand_by-filter (by ssrc_of) is (filter_map sub_in d.others) (subs_stand d.others (good_order d g)))
    (all_pass is table)
    (all_pass is (filter_map sub_in d.others))
    (same_filtered is table (filter_map sub_in d.others) (same_in sub_in source_of ssrc_of d.others table h))

-- ---- slots

abbrev member_of : SlotRow → ℕ
member_of s = s.member

abbrev index_of : SlotRow → ℕ
index_of s = s.index

pub indexes_rise : (others : List Row) (member : ℕ) (table : List SlotRow)
    → IsTableOf slot_in member_of index_of others table
    → IsNonDecreasingBy index_of (filter (λ s. nat_eq s.member member) table)
indexes_rise others member table h =
    rises_by index_of (filter (λ s. nat_eq s.member member) table) (turns_rise member_of index_of member table h.order)

same_slot : (x y : SlotRow) → same_row (Slot x) (Slot y) ≡ true → x ≡ y
same_slot x y e = inside x y (same_row_is (Slot x) (Slot y) e) where
  inside : (a b : SlotRow) → Slot a ≡ Slot b → a ≡ b
  inside a b e = cc

pub slots_in_table : (d : Desk) (member : ℕ) (table : List SlotRow) → good d ≡ true
    → IsTableOf slot_in member_of index_of d.others table → (index : ℕ)
    → filter (λ s. nat_eq s.index index) (filter (λ s. nat_eq s.member member) table)
    ≡ filter (λ s. nat_eq s.index index) (slots_naming d member)
slots_in_table d member table g h index =
    let of_member : SlotRow → Bool = λ s. nat_eq s.member member in
    let of_index : SlotRow → Bool = λ s. nat_eq s.index index in
    same_short (λ x y. same_row (Slot x) (Slot y)) (λ x. row_itself (Slot x)) same_slot
    (filter of_index (filter of_member table)) (filter of_index (slots_naming d member)) (one_at_place d member index g)
    (same_filtered of_index (filter of_member table) (slots_naming d member)
    (same_filtered of_member table (filter_map slot_in d.others) (same_in slot_in member_of index_of d.others table h)))
