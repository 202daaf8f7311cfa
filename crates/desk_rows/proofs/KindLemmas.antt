-- The rows of one kind, and the row of a key.
use Rattle.std.specs.Prelude.{◌≡◌, ◌≤◌, ◌∷◌, ◌++◌}
use Rattle.desk_rows.specs.laws.Words.{ℕ, Bool, true, false, cond, List, [], length, None, Some, refl, sym, ap, ◌∙◌}
use Rattle.desk_rows.specs.laws.Words.{arith, map, not, filter, nat_le, append-nil, and_parts, leb-true, find-append}
use Rattle.desk_rows.specs.laws.Words.{length-map, length-filter, find, list_all, option_or, count_by, Key, Kind}
use Rattle.desk_rows.specs.laws.Words.{MemberRow as Member, Row, Desk, count_of, good, is_of, member_limit, slot_limit}
use Rattle.desk_rows.specs.laws.Words.{room_limit, source_limit, gain_limit, in_order, has_key}
use Rattle.desk_rows.specs.declared.row.Row.TheVariants as rows
use Rattle.desk_rows.specs.declared.key.Kind.TheVariants as kinds
use Rattle.desk_rows.specs.declared.key.Key.TheVariants as keys
use Rattle.desk_rows.specs.laws.Laws.{good_parts}

members_first : (ms : List Member) (os : List Row)
    → filter (is_of kinds.Member) (map rows.Member ms ++ os) ≡ map rows.Member ms ++ filter (is_of kinds.Member) os
members_first [] os = refl
members_first (m ∷ ms) os = ap (λ rs. rows.Member m ∷ rs) (members_first ms os)

no_members : (os : List Row) → list_all (λ r. not (is_of kinds.Member r)) os ≡ true
    → filter (is_of kinds.Member) os ≡ []
no_members [] h = refl
no_members (r ∷ os) h = grind (arith, h, no_members os)

-- the members of a good desk are its rows of that kind
pub members_only : (ms : List Member) (os : List Row) → list_all (λ r. not (is_of kinds.Member r)) os ≡ true
    → filter (is_of kinds.Member) (map rows.Member ms ++ os) ≡ map rows.Member ms
members_only ms os h =
    members_first ms os ∙ ap (λ rs. map rows.Member ms ++ rs) (no_members os h) ∙ append-nil (map rows.Member ms)

members_skipped : (p : Row → Bool) → ((m : Member) → p (rows.Member m) ≡ false) → (ms : List Member) (os : List Row)
    → filter p (map rows.Member ms ++ os) ≡ filter p os
members_skipped p none [] os = refl
members_skipped p none (m ∷ ms) os =
    ap (λ b. cond b (rows.Member m ∷ filter p (map rows.Member ms ++ os)) (filter p (map rows.Member ms ++ os)))
    (none m)
    ∙ members_skipped p none ms os

not_of : (kind : Kind) → (kind ≡ kinds.Member → ⊥) → (m : Member) → is_of kind (rows.Member m) ≡ false
not_of kinds.Member not m = absurd (not refl)
not_of _ not m = refl

pub others_only : (kind : Kind) → (kind ≡ kinds.Member → ⊥) → (ms : List Member) (os : List Row)
    → filter (is_of kind) (map rows.Member ms ++ os) ≡ filter (is_of kind) os
others_only kind not ms os = members_skipped (is_of kind) (not_of kind not) ms os

pub plain_others : (d : Desk) → good d ≡ true → list_all (λ r. not (is_of kinds.Member r)) d.others ≡ true
plain_others d g =
    (and_parts (in_order d.others) (list_all (λ r. not (is_of kinds.Member r)) d.others) (good_parts d g).listed).1

-- ---- counts are lengths

pub members_counted : (ms : List Member) (os : List Row) → list_all (λ r. not (is_of kinds.Member r)) os ≡ true
    → length ms ≡ count_by (is_of kinds.Member) (map rows.Member ms ++ os)
members_counted ms os h =
    let all = ap length (members_only ms os h) in
    omega (arith, all, length-filter (is_of kinds.Member) (map rows.Member ms ++ os), length-map ms rows.Member)

pub others_counted : (kind : Kind) → (kind ≡ kinds.Member → ⊥) → (ms : List Member) (os : List Row)
    → length (filter (is_of kind) os) ≡ count_by (is_of kind) (map rows.Member ms ++ os)
others_counted kind not ms os =
    sym (ap length (others_only kind not ms os)) ∙ length-filter (is_of kind) (map rows.Member ms ++ os)

-- ---- rows found

pub found_first : (p : Row → Bool) (xs ys : List Row) (r : Row) → find p xs ≡ Some r → find p (xs ++ ys) ≡ Some r
found_first p xs ys r h = find-append p xs ys ∙ ap (λ o. option_or o (find p ys)) h

pub found_later : (p : Row → Bool) (xs ys : List Row) → find p xs ≡ None → find p (xs ++ ys) ≡ find p ys
found_later p xs ys h = find-append p xs ys ∙ ap (λ o. option_or o (find p ys)) h

-- only the key of a member is a member's
pub not_its : (key : Key) → ((n : ℕ) → key ≡ keys.Member n → ⊥) → (m : Member) → has_key key (rows.Member m) ≡ false
not_its (keys.Member n) not m = absurd (not n refl)
not_its _ not r = refl

pub skipped : (key : Key) → ((n : ℕ) → key ≡ keys.Member n → ⊥) → (ms : List Member) (os : List Row)
    → find (has_key key) (map rows.Member ms ++ os) ≡ find (has_key key) os
skipped key not [] os = refl
skipped key not (m ∷ ms) os =
    ap (λ b. cond b (Some (rows.Member m)) (find (has_key key) (map rows.Member ms ++ os))) (not_its key not m)
    ∙ skipped key not ms os

-- ---- limits

pub record Within (d : Desk) : Type 0 where
  pub rooms : count_of kinds.Room d ≤ room_limit
  pub members : count_of kinds.Member d ≤ member_limit
  pub sources : count_of kinds.Source d ≤ source_limit
  pub slots : count_of kinds.Slot d ≤ slot_limit
  pub gains : count_of kinds.Gain d ≤ gain_limit

pub within_parts : (d : Desk) → good d ≡ true → Within d
within_parts d g =
    let rooms = and_parts (nat_le (count_of kinds.Room d) room_limit) _ (good_parts d g).within in
    let members = and_parts (nat_le (count_of kinds.Member d) member_limit) _ rooms.1 in
    let sources = and_parts (nat_le (count_of kinds.Source d) source_limit) _ members.1 in
    let slots = and_parts (nat_le (count_of kinds.Slot d) slot_limit) _ sources.1 in
    let gains = and_parts (nat_le (count_of kinds.Gain d) gain_limit) true slots.1 in
    record {
      rooms = leb-true _ _ rooms.0;
      members = leb-true _ _ members.0;
      sources = leb-true _ _ sources.0;
      slots = leb-true _ _ slots.0;
      gains = leb-true _ _ gains.0;
    }
