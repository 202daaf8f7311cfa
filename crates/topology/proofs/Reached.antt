-- On a good desk a source has on a stream the stream's slot as its one receiver, if that chose it, and else none.
use Rattle.std.proofs.Common.{◌≡◌, ℕ, ◌<◌, ◌≤◌, Bool, true, false, cond, nat_eq, List, [], ◌∷◌, ◌++◌, map, length}
use Rattle.std.proofs.Common.{Option, None, Some, refl, sym, ap, ◌∙◌, arith, eqb-true}
use Rattle.std.specs.Prelude.{filter, option_map, option_and_then}
use Rattle.std.specs.List.{flat_map, range_with_len, slice_get}
use Rattle.std.proofs.lemmas.Bool.{eq-eqb}
use Rattle.std.proofs.lemmas.List.Elements.{filter-append}
use Rattle.rtp_codec.specs.declared.address.Address.{Address}
use Rattle.desk_rows.specs.declared.row.Member.{Member as MemberRow}
use Rattle.desk_rows.specs.declared.row.Slot.{Slot as SlotRow}
use Rattle.desk_rows.specs.laws.PlacesOnce.{of_index}
use Rattle.desk_rows.specs.Desk.{Desk, good}
use Rattle.topology.specs.declared.receivers.Receiver.{Receiver}
use Rattle.topology.specs.Looking.{member_at, slot_at, comes_from}
use Rattle.topology.specs.Receivers.{slots_of, chooses, by_index, by_place, receiver, receivers, receiver_at, receiving}
use Rattle.topology.specs.Receivers.{receiver_on, AreDistinct}
use Rattle.topology.proofs.Distinct.{at, Distinct, turned}
use Rattle.topology.proofs.Finding.{in_range, Distinct-range}
use Rattle.topology.proofs.KindRows.{number, slot_ssrc, slot_row, member_row}
use Rattle.topology.proofs.GoodRows.{slots_distinct, members_distinct, no_members, index_few}
use Rattle.topology.proofs.Parted.{apart_once, filter-map, filter-filter, listed, one_of_key, found_front}
use Rattle.topology.proofs.Parted.{filter-groups, by_index-none, by_place-none}

-- ---- the receivers of one stream

-- the slot has this SSRC
abbrev is_slot : ℕ → SlotRow → Bool
is_slot k s = nat_eq s.out_ssrc k

-- and the receiver's slot has it
abbrev is_on : ℕ → Receiver → Bool
is_on k r = is_slot k r.slot

-- they are the placed slots of that SSRC
on_placed : (k : ℕ) (members : List MemberRow) (slots : List SlotRow)
    → filter (is_on k) (by_place members slots) ≡ by_place members (filter (is_slot k) slots)
on_placed k [] slots = refl
on_placed k (m ∷ members) slots =
    filter-append (is_on k) (map (receiver m) (filter (λ s. nat_eq s.member m.member) slots)) (by_place members slots)
    ∙ (λ i.
    (filter-map (is_on k) (receiver m) (filter (λ s. nat_eq s.member m.member) slots)
    ∙ ap (map (receiver m)) (filter-filter (is_slot k) (λ s. nat_eq s.member m.member) slots)) i
    ++ on_placed k members slots i)

on_indexed : (k : ℕ) (slots : List SlotRow) → filter (is_slot k) (by_index slots) ≡ by_index (filter (is_slot k) slots)
unfolding by_index
on_indexed k slots = filter-groups (is_slot k) of_index slots (range_with_len 0 16)

-- ---- one slot

-- of the groups of one thing there is the one of its number
one_group : {I Y : Type 0} (num : I → ℕ) (t : ℕ) (y : I → Y) (is : List I) → Distinct num is
    → flat_map (λ i. cond (nat_eq t (num i)) (y i ∷ []) []) is ≡ listed (option_map y (at num t is))
one_group num t y [] apart = refl
one_group {Y = Y} num t y (i ∷ is) apart = by (nat_eq t (num i)) refl (one_group num t y is apart.1)
  where
    rest : List Y
    rest = flat_map (λ i. cond (nat_eq t (num i)) (y i ∷ []) []) is

    by : (b : Bool) → nat_eq t (num i) ≡ b → rest ≡ listed (option_map y (at num t is))
        → cond b (y i ∷ []) [] ++ rest ≡ listed (option_map y (cond (nat_eq (num i) t) (Some i) (at num t is)))
    by true e later =
        let is_it = eqb-true t (num i) e in
        ap (λ ys. y i ∷ ys) (later ∙ ap (λ o. listed (option_map y o)) (ap (λ n. at num n is) is_it ∙ apart.0))
        ∙ sym (ap (λ b. listed (option_map y (cond b (Some i) (at num t is)))) (eq-eqb (num i) t (sym is_it)))
    by false e later =
        later ∙ sym (ap (λ b. listed (option_map y (cond b (Some i) (at num t is)))) (turned t (num i) e))

of_one : (d : Desk) (s : SlotRow) → good d ≡ true → s.index < 16
    → by_place d.members (by_index (s ∷ [])) ≡ listed (option_map (λ m. receiver m s) (member_at d s.member))
unfolding by_index
of_one d s g few =
    ap (by_place d.members) (one_group (λ (i : ℕ). i) s.index (λ i. s) (range_with_len 0 16) (Distinct-range 0 16)
    ∙ ap (λ o. listed (option_map (λ i. s) o)) (in_range s.index 0 16 (omega arith) few))
    ∙ (λ i. flat_map (λ m. made m (nat_eq s.member m.member) i) d.members)
    ∙ one_group number s.member (λ m. receiver m s) d.members (members_distinct d g)
    ∙ sym (ap (λ o. listed (option_map (λ m. receiver m s) o)) (member_row d s.member (no_members d g)))
  where
    made : (m : MemberRow) (b : Bool) → map (receiver m) (cond b (s ∷ []) []) ≡ cond b (receiver m s ∷ []) []
    made m true = refl
    made m false = refl

-- the receivers, before the source's address is asked for
abbrev placed_all : Desk → ℕ → List Receiver
placed_all d source = by_place d.members (by_index (filter (chooses d source) (slots_of d)))

on_stream : (d : Desk) (source k : ℕ) → good d ≡ true
    → filter (is_on k) (placed_all d source)
    ≡ listed (option_and_then (receiving d source) (at slot_ssrc k (slots_of d)))
on_stream d source k g =
    on_placed k d.members (by_index (filter (chooses d source) (slots_of d)))
    ∙ ap (by_place d.members) (on_indexed k (filter (chooses d source) (slots_of d))
    ∙ ap by_index (filter-filter (is_slot k) (chooses d source) (slots_of d)
    ∙ ap (filter (chooses d source)) (one_of_key slot_ssrc k (slots_of d) (slots_distinct d g))))
    ∙ by (at slot_ssrc k (slots_of d)) refl
  where
    nobody : by_place d.members (by_index []) ≡ []
    nobody = ap (by_place d.members) by_index-none ∙ by_place-none d.members

    by : (o : Option SlotRow) → at slot_ssrc k (slots_of d) ≡ o
        → by_place d.members (by_index (filter (chooses d source) (listed o)))
        ≡ listed (option_and_then (receiving d source) o)
    by None found = nobody
    by (Some s) found = told (chooses d source s)
      where
        told : (b : Bool)
            → by_place d.members (by_index (cond b (s ∷ []) []))
            ≡ listed (cond b (option_map (λ m. receiver m s) (member_at d s.member)) None)
        told true = of_one d s g (index_few d k s g found)
        told false = nobody

-- ---- the laws

pub reached : (d : Desk) (source : ℕ) (address : Address) (k : ℕ) → good d ≡ true
    → receiver_at k (receivers d source address) ≡ receiver_on d source address k
unfolding receivers
reached d source address k g = by (comes_from d source address)
  where
    first : (o : Option Receiver) → slice_get (listed o) 0 ≡ o
    first None = refl
    first (Some r) = refl

    by : (b : Bool)
        → receiver_at k (cond b (placed_all d source) [])
        ≡ cond b (option_and_then (receiving d source) (slot_at d k)) None
    by false = refl
    by true =
        found_front (is_on k) (placed_all d source)
        ∙ ap (λ rs. slice_get rs 0) (on_stream d source k g)
        ∙ first (option_and_then (receiving d source) (at slot_ssrc k (slots_of d)))
        ∙ ap (option_and_then (receiving d source)) (sym (slot_row d k))

are_distinct : (rs : List Receiver) → Distinct (λ r. r.slot.out_ssrc) rs → AreDistinct rs
are_distinct [] apart = tt
are_distinct (r ∷ rs) apart = (apart.0, are_distinct rs apart.1)

pub receivers_distinct : (d : Desk) (source : ℕ) (address : Address) → good d ≡ true
    → AreDistinct (receivers d source address)
unfolding receivers
receivers_distinct d source address g = by (comes_from d source address)
  where
    one : (rs : List Receiver) (o : Option Receiver) → rs ≡ listed o → length rs ≤ 1
    one rs None e = let same : length rs ≡ 0 = ap length e in omega arith
    one rs (Some r) e = let same : length rs ≡ 1 = ap length e in omega arith

    once : (k : ℕ) → length (filter (is_on k) (placed_all d source)) ≤ 1
    once k =
        one (filter (is_on k) (placed_all d source))
        (option_and_then (receiving d source) (at slot_ssrc k (slots_of d))) (on_stream d source k g)

    by : (b : Bool) → AreDistinct (cond b (placed_all d source) [])
    by false = tt
    by true = are_distinct (placed_all d source) (apart_once (λ r. r.slot.out_ssrc) (placed_all d source) once)
