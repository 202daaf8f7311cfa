-- What a good desk tells of its rows.
use Rattle.std.proofs.Common.{◌≡◌, ℕ, ◌+◌, ◌<◌, Bool, true, false, cond, not, ◌&&◌, ◌||◌, nat_eq, nat_le, List, [], ◌∷◌}
use Rattle.std.proofs.Common.{◌++◌, map, None, Some, refl, sym, ap, ◌∙◌, arith, append_assoc, eqb-true, ◌≤◌, length}
use Rattle.std.proofs.Common.{Option}
use Rattle.std.specs.Prelude.{count_by, option_map, option_and_then, filter}
use Rattle.std.specs.List.{find, list_any, list_all, AllByRecursion}
use Rattle.std.proofs.lemmas.Bool.{and_parts}
use Rattle.std.proofs.lemmas.Bool.Decides.{nat_tests}
use Rattle.desk_rows.specs.declared.row.Row.{Row}
use Rattle.desk_rows.specs.declared.row.Row.TheVariants.{Member, Source, Slot, Sub}
use Rattle.desk_rows.specs.declared.row.Member.{Member as MemberRow}
use Rattle.desk_rows.specs.declared.row.Slot.{Slot as SlotRow}
use Rattle.desk_rows.specs.declared.claim.Claim.{Claim}
use Rattle.desk_rows.specs.declared.claim.Claim.TheVariants as claims
use Rattle.desk_rows.specs.declared.key.Key.{Key}
use Rattle.desk_rows.specs.declared.key.Key.TheVariants as keys
use Rattle.desk_rows.specs.declared.key.Kind.TheVariants as kinds
use Rattle.desk_rows.specs.Row.{makes, has_key, names, is_in_range}
use Rattle.desk_rows.specs.Kinds.{is_of}
use Rattle.desk_rows.specs.Order.{precedes, in_order}
use Rattle.desk_rows.specs.laws.ClaimLaws.{claimed_once}
use Rattle.desk_rows.specs.laws.PlaceLaws.{count_next}
use Rattle.desk_rows.specs.laws.Laws.{good_parts, good_order}
use Rattle.desk_rows.specs.Desk.{Desk, good, is_named_there, rows_of, row_at, are_together, all_suit}
use Rattle.desk_rows.specs.Desk.{has_few_audio, obeys}
use Rattle.desk_rows.specs.Getters.{member_in, source_in, slot_in, sub_in, member_at}
use Rattle.desk_rows.specs.laws.GetterLaws.{member_with, under_slot}
use Rattle.topology.specs.Choice.{sources_of}
use Rattle.topology.specs.Receivers.{slots_of}
use Rattle.topology.proofs.Distinct.{at, Distinct}
use Rattle.topology.proofs.Parted.{apart_once}
use Rattle.topology.proofs.Finding as finding
use Rattle.topology.proofs.Rising.{rises, rising, Keyed, apart}
use Rattle.desk_rows.specs.laws.NamingLaws.{its_slot, its_sub}
use Rattle.topology.proofs.KindRows.{subs_of, number, source_ssrc, slot_ssrc, sub_ssrc, its_source, slot_row}

-- ---- lists of one kind rise

sources_keyed : Keyed source_in source_ssrc
sources_keyed a b x y e f h =
    sym (ap (λ r. precedes r (Source y)) (its_source a x e)) ∙ sym (ap (precedes a) (its_source b y f)) ∙ h

slots_keyed : Keyed slot_in slot_ssrc
slots_keyed a b x y e f h =
    sym (ap (λ r. precedes r (Slot y)) (its_slot a x e)) ∙ sym (ap (precedes a) (its_slot b y f)) ∙ h

subs_keyed : Keyed sub_in sub_ssrc
subs_keyed a b x y e f h =
    sym (ap (λ r. precedes r (Sub y)) (its_sub a x e)) ∙ sym (ap (precedes a) (its_sub b y f)) ∙ h

pub sources_rise : (d : Desk) → good d ≡ true → rises source_ssrc (sources_of d) ≡ true
sources_rise d h = rising source_in source_ssrc sources_keyed d.others (good_order d h)

pub slots_rise : (d : Desk) → good d ≡ true → rises slot_ssrc (slots_of d) ≡ true
slots_rise d h = rising slot_in slot_ssrc slots_keyed d.others (good_order d h)

pub subs_rise : (d : Desk) → good d ≡ true → rises sub_ssrc (subs_of d) ≡ true
subs_rise d h = rising sub_in sub_ssrc subs_keyed d.others (good_order d h)

pub slots_distinct : (d : Desk) → good d ≡ true → Distinct slot_ssrc (slots_of d)
slots_distinct d h = apart slot_ssrc (slots_of d) (slots_rise d h)

-- ---- members

-- a number by which members are told apart, as each claims its own
abbrev pub Claims : (MemberRow → ℕ) → (ℕ → Claim) → Type 0
Claims key claim = (k : ℕ) (m : MemberRow) → nat_eq (key m) k ≡ true → makes (claim k) (Member m) ≡ true

-- the members of a number claim it
claimed : (key : MemberRow → ℕ) (claim : ℕ → Claim) → Claims key claim → (k : ℕ) (ms : List MemberRow) (rs : List Row)
    → length (filter (λ m. nat_eq (key m) k) ms) ≤ count_by (makes (claim k)) (map Member ms ++ rs)
claimed key claim its k [] rs = omega arith
claimed key claim its k (m ∷ ms) rs = by (nat_eq (key m) k) refl (claimed key claim its k ms rs)
  where
    next : count_by (makes (claim k)) (Member m ∷ map Member ms ++ rs)
        ≡ cond (makes (claim k) (Member m)) 1 0 + count_by (makes (claim k)) (map Member ms ++ rs)
    next = count_next (makes (claim k)) (Member m) (map Member ms ++ rs)

    by : (b : Bool) → nat_eq (key m) k ≡ b
        → length (filter (λ m. nat_eq (key m) k) ms) ≤ count_by (makes (claim k)) (map Member ms ++ rs)
        → length (cond b (m ∷ filter (λ m. nat_eq (key m) k) ms) (filter (λ m. nat_eq (key m) k) ms))
        ≤ count_by (makes (claim k)) (Member m ∷ map Member ms ++ rs)
    by true e rest =
        let one : ◌≡◌ {A = ℕ} (cond (makes (claim k) (Member m)) 1 0) 1 = ap (λ b. cond b 1 0) (its k m e) in
        omega (arith, rest, next, one)
    by false e rest = omega (arith, rest, next)

-- a claim is made once, so no two members have one such number
pub members_apart : (key : MemberRow → ℕ) (claim : ℕ → Claim) → Claims key claim → (d : Desk) → good d ≡ true
    → Distinct key d.members
members_apart key claim its d g =
    apart_once key d.members (λ k.
    let few = claimed key claim its k d.members d.others in
    let once = claimed_once d (claim k) (good_parts d g).alone in
    omega (arith, few, once))

pub members_distinct : (d : Desk) → good d ≡ true → Distinct number d.members
members_distinct d g = members_apart number (λ k. claims.Key (keys.Member k)) (λ k m e. e) d g

pub no_members : (d : Desk) → good d ≡ true → list_all (λ r. not (is_of kinds.Member r)) d.others ≡ true
no_members d h =
    (and_parts (in_order d.others) (list_all (λ r. not (is_of kinds.Member r)) d.others) (good_parts d h).listed).1

-- ---- rows that are found

pub each : {X : Type 0} (p : X → Bool) (xs : List X) → list_all p xs ≡ true → AllByRecursion (λ x. p x ≡ true) xs
each p [] h = tt
each p (x ∷ xs) h = (let both = and_parts (p x) (list_all p xs) h in (both.0, each p xs both.1))

-- what is found has the key, and what is true of all
pub of_found : (p : Row → Bool) (key : Key) (r : Row) (rs : List Row) → list_all p rs ≡ true
    → find (has_key key) rs ≡ Some r → (p r ≡ true) × (has_key key r ≡ true)
of_found p key r rs all h = finding.of_found (λ r. p r ≡ true) (has_key key) r rs (each p rs all) h

-- what a row is asked for is found
pub found_any : (key : Key) (rs : List Row) → list_any (has_key key) rs ≡ true
    → (r : Row) × (find (has_key key) rs ≡ Some r)
found_any key [] h = absurd (cc)
found_any key (x ∷ rs) h = by (has_key key x) h (found_any key rs)
  where
    by : (b : Bool) → b || list_any (has_key key) rs ≡ true
        → (list_any (has_key key) rs ≡ true → (r : Row) × (find (has_key key) rs ≡ Some r))
        → (r : Row) × (cond b (Some x) (find (has_key key) rs) ≡ Some r)
    by true h later = (x, refl)
    by false h later = later h

-- ---- slots

-- the row of a slot that is found
found_slot : (d : Desk) (k : ℕ) (s : SlotRow) → at slot_ssrc k (slots_of d) ≡ Some s
    → row_at d (keys.Slot k) ≡ Some (Slot s)
found_slot d k s h = under_slot d k ∙ ap (option_map Slot) (slot_row d k ∙ h)

-- a slot of a good desk has an index under 16
pub index_few : (d : Desk) (k : ℕ) (s : SlotRow) → good d ≡ true → at slot_ssrc k (slots_of d) ≡ Some s → s.index < 16
index_few d k s h found =
    let obeyed =
    (of_found (obeys d) (keys.Slot k) (Slot s) (rows_of d) (good_parts d h).obey (found_slot d k s found)).0 in
    let both =
    and_parts (is_in_range (Slot s) && has_few_audio d (Slot s))
    (all_suit d (Slot s) && are_together d (names (Slot s))) obeyed in
    let small : nat_le s.index 15 ≡ true = (and_parts (is_in_range (Slot s)) (has_few_audio d (Slot s)) both.0).0 in
    at_most s.index small
  where
    at_most : (n : ℕ) → nat_le n 15 ≡ true → n < 16
    at_most n e = grind (arith, nat_tests)

-- and its member is there
pub its_member : (d : Desk) (k : ℕ) (s : SlotRow) → good d ≡ true → at slot_ssrc k (slots_of d) ≡ Some s
    → (m : MemberRow) × (member_at d s.member ≡ Some m)
its_member d k s h found =
    let named =
    (of_found (is_named_there d) (keys.Slot k) (Slot s) (rows_of d) (good_parts d h).named
    (found_slot d k s found)).0 in
    let there =
    found_any (keys.Member s.member) (rows_of d)
    (and_parts (list_any (has_key (keys.Member s.member)) (rows_of d)) true named).0 in
    let key =
    (of_found (is_named_there d) (keys.Member s.member) there.0 (rows_of d) (good_parts d h).named there.1).1 in
    let is = member_with s.member there.0 key in
    (is.0, ap (option_and_then member_in) (there.1 ∙ ap Some is.1))
