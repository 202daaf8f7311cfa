-- On a good desk a member has one slot of an index at most.
use Rattle.std.specs.Prelude.{◌≡◌, ◌≤◌, ◌∷◌, ◌+◌}
use Rattle.desk_rows.specs.laws.Words.{ℕ, Bool, true, List, [], length, Option, None, Some, refl, ap, arith, map}
use Rattle.desk_rows.specs.laws.Words.{nat_eq, filter, nat_tests, filter_map, cons_option, count_by, Row, Member, Slot}
use Rattle.desk_rows.specs.laws.Words.{SlotRow, Desk, rows_of, good, slot_in, makes}
use Rattle.desk_rows.specs.declared.claim.Claim.TheVariants as claims
use Rattle.desk_rows.specs.laws.ClaimLaws.{claimed_once}
use Rattle.desk_rows.specs.laws.Laws.{good_parts}
use Rattle.desk_rows.specs.laws.ListLaws.{count_next, count_by-append}
use Rattle.desk_rows.specs.laws.NamingLaws.{its_slot}

-- the slots of a member and an index
abbrev pub of_member : ℕ → SlotRow → Bool
of_member member s = nat_eq s.member member

abbrev pub of_index : ℕ → SlotRow → Bool
of_index index s = nat_eq s.index index

abbrev pub at_place : ℕ → ℕ → List SlotRow → List SlotRow
at_place member index slots = filter (of_index index) (filter (of_member member) slots)

-- a slot in the place claims it
its_place : (member index : ℕ) (s : SlotRow) → nat_eq s.member member ≡ true → nat_eq s.index index ≡ true
    → makes (claims.Place member index) (Slot s) ≡ true
its_place member index s e f = grind (arith, nat_tests, e, f)

-- so a place has no more slots than claims
slots_claim : (member index : ℕ) (rs : List Row)
    → length (at_place member index (filter_map slot_in rs)) ≤ count_by (makes (claims.Place member index)) rs
slots_claim member index [] = omega arith
slots_claim member index (r ∷ rs) = by (slot_in r) refl (slots_claim member index rs)
  where
    by : (o : Option SlotRow) → slot_in r ≡ o
        → length (at_place member index (filter_map slot_in rs)) ≤ count_by (makes (claims.Place member index)) rs
        → length (at_place member index (cons_option o (filter_map slot_in rs)))
        ≤ count_by (makes (claims.Place member index)) (r ∷ rs)
    by None e rest = omega (arith, rest, count_next (makes (claims.Place member index)) r rs)
    by (Some s) e rest =
        grind (
          arith,
          rest,
          count_next (makes (claims.Place member index)) r rs,
          ap (makes (claims.Place member index)) (its_slot r s e),
          its_place member index s,
        )

pub one_at_place : (d : Desk) (member index : ℕ) → good d ≡ true
    → length (at_place member index (filter_map slot_in d.others)) ≤ 1
one_at_place d member index h =
    let all = claimed_once d (claims.Place member index) (good_parts d h).alone in
    let claim = makes (claims.Place member index) in
    let split : count_by claim (rows_of d) ≡ count_by claim (map Member d.members) + count_by claim d.others =
    count_by-append claim (map Member d.members) d.others in
    let slots = slots_claim member index d.others in
    omega arith
