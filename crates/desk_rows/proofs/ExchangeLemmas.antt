-- The tests of an exchange, and what absorbing an edit that fits finds and leaves.
pub use Rattle.desk_rows.specs.laws.OrderLaws.{length-with_rows}
use Rattle.std.specs.Prelude.{◌≡◌, ◌≤◌, ◌||◌, ◌∷◌, ◌+◌, ◌-◌, ◌&&◌, if◌then◌else◌}
use Rattle.desk_rows.specs.laws.Words.{ℕ, Bool, true, false, cond, List, [], length, refl, sym, ap, ◌∙◌, arith, map}
use Rattle.desk_rows.specs.laws.Words.{nat_eq, not, inl, inr, filter, eqb-true, or_right, or_cases, and_parts, and_from}
use Rattle.desk_rows.specs.laws.Words.{false_from_ne_true, length-filter_both, length-map, length-filter, list_any}
use Rattle.desk_rows.specs.laws.Words.{list_all, count_by, eq-eqb, Placed, Key, Kind, MemberRow as Member, Row, Desk}
use Rattle.desk_rows.specs.laws.Words.{rows_of, blank, is_named_there, good, is_of, member_limit, slot_limit}
use Rattle.desk_rows.specs.laws.Words.{other_limit, numbers_precede, is_in, in_order, precedes, take_at, can_take}
use Rattle.desk_rows.specs.laws.Words.{can_put, places_rise, put_within, has_key, rank, kind_of, own_numbers}
use Rattle.desk_rows.specs.laws.Words.{key_numbers, key_of, owner_of, same_key}
use Rattle.desk_rows.specs.declared.row.Row.TheVariants as rows
use Rattle.desk_rows.specs.declared.key.Key.TheVariants as keys
use Rattle.desk_rows.specs.declared.key.Kind.TheVariants as kinds
use Rattle.desk_rows.specs.laws.ClaimLaws.{witness}
use Rattle.desk_rows.specs.laws.Equal.{same_key_is, key_itself, its_key}
use Rattle.desk_rows.specs.laws.Laws.{good_parts, good_order, any_counts, is_in-append}
use Rattle.desk_rows.specs.laws.ListLaws.{true_false, count_next, count_by-append, some_count, count_some, all_pass}
use Rattle.desk_rows.specs.laws.NumberLaws.{numbers_not_before}
use Rattle.desk_rows.specs.laws.OrderLaws.{at_each, from_each, in_order-filter, same_key_turned, is_in-filter}
use Rattle.desk_rows.specs.laws.PlaceLaws.{length-take_at, can_put_within}
use Rattle.desk_rows.proofs.Counts.{rows_count}
use Rattle.desk_rows.proofs.KindLemmas.{within_parts}

-- ---- places

pub taken_few : (tm : List Placed) (ms : List Member) → (places_rise tm && can_take tm ms) ≡ true
    → length tm ≤ length ms
taken_few tm ms h = let l = length-take_at tm ms (and_parts (places_rise tm) (can_take tm ms) h).1 in omega (arith, l)

pub put_places : (tm : List Placed) (ms : List Member) (pm : List Placed) → (places_rise tm && can_take tm ms) ≡ true
    → put_within (length ms - length tm) pm ≡ can_put pm (take_at tm ms)
put_places tm ms pm h =
    let l = length-take_at tm ms (and_parts (places_rise tm) (can_take tm ms) h).1 in
    let n : length (take_at tm ms) ≡ length ms - length tm = omega (arith, l) in
    sym (can_put_within pm (take_at tm ms) ∙ ap (λ n. put_within n pm) n)

-- ---- how many rows there may be

filter_count : (p : Row → Bool) (xs : List Row) → count_by p xs + length (filter (λ x. not (p x)) xs) ≡ length xs
filter_count p xs = omega (arith, length-filter p xs, length-filter_both p (λ x. not (p x)) (λ x. refl) xs)

-- the key of the row whose number a row has
abbrev owner_key : Row → Key
owner_key r = owner_of (key_of r)

own_kept : (k : Key) → own_numbers (owner_of k) ≡ own_numbers k
own_kept (keys.Room n) = refl
own_kept _ = refl

-- rows of one kind in order have the numbers of differing rows
owners_differ : (kind : Kind) (x z : Row) → is_of kind x ≡ true → is_of kind z ≡ true → precedes x z ≡ true
    → same_key (owner_key x) (owner_key z) ≡ false
owners_differ kind x z f g h = false_from_ne_true _ (λ e.
    let own : own_numbers (key_of x) ≡ own_numbers (key_of z) =
    sym (own_kept (key_of x)) ∙ ap own_numbers (same_key_is (owner_key x) (owner_key z) e) ∙ own_kept (key_of z) in
    let ranks : rank (kind_of (key_of x)) ≡ rank (kind_of (key_of z)) = eqb-true _ _ f ∙ sym (eqb-true _ _ g) in
    true_false (sym h
    ∙ (λ i. numbers_precede (ranks i ∷ own i) (key_numbers (key_of z)))
    ∙ numbers_not_before (key_numbers (key_of z))))

-- rows of differing keys that each have a row among others are no more than these
each_has_its_own : (kind : Kind) (xs ys : List Row) → in_order xs ≡ true → list_all (is_of kind) xs ≡ true
    → list_all (λ x. list_any (has_key (owner_key x)) ys) xs ≡ true → length xs ≤ length ys
each_has_its_own kind [] ys h k each = omega arith
each_has_its_own kind (x ∷ xs) ys h k each =
    let order = and_parts (list_all (precedes x) xs) (in_order xs) h in
    let subs = and_parts (is_of kind x) (list_all (is_of kind) xs) k in
    let haves =
    and_parts (list_any (has_key (owner_key x)) ys) (list_all (λ x. list_any (has_key (owner_key x)) ys) xs) each in
    let left = filter (λ y. not (has_key (owner_key x) y)) ys in
    let some = some_count (has_key (owner_key x)) ys haves.0 in
    let all = filter_count (has_key (owner_key x)) ys in
    let rest =
    each_has_its_own kind xs left order.1 subs.1 (from_each (λ z. list_any (has_key (owner_key z)) left) xs (λ z one.
    let w = witness (has_key (owner_key z)) ys (at_each (λ z. list_any (has_key (owner_key z)) ys) xs z haves.1 one) in
    let differ =
    owners_differ kind x z subs.0 (at_each (is_of kind) xs z subs.1 one) (at_each (precedes x) xs z order.0 one) in
    let other : has_key (owner_key x) w.0 ≡ false =
    ap (λ q. same_key q (owner_key x)) (its_key (owner_key z) w.0 w.2)
    ∙ false_from_ne_true _ (λ e. true_false (sym (same_key_turned (owner_key z) (owner_key x) e) ∙ differ)) in
    let stays : is_in left w.0 ≡ true =
    is_in-filter (λ y. not (has_key (owner_key x) y)) w.0 ys ∙ and_from _ _ w.1 (ap not other) in
    count_some (has_key (owner_key z)) left (any_counts (has_key (owner_key z)) left w.0 stays w.2))) in
    omega (arith, rest, all, some)

-- rows that are no members' are of the eight other kinds
of_eight_kinds : (xs : List Row) → list_all (λ r. not (is_of kinds.Member r)) xs ≡ true →
    length xs
    ≡ ((count_by (is_of kinds.Room) xs + count_by (is_of kinds.Source) xs)
    + (count_by (is_of kinds.Slot) xs + count_by (is_of kinds.Sub) xs))
    + ((count_by (is_of kinds.Mute) xs + count_by (is_of kinds.Gain) xs)
    + (count_by (is_of kinds.Pin) xs + count_by (is_of kinds.Floor) xs))
of_eight_kinds [] h = refl
of_eight_kinds (x ∷ xs) h =
    let both = and_parts (not (is_of kinds.Member x)) (list_all (λ r. not (is_of kinds.Member r)) xs) h in
    let rest = of_eight_kinds xs both.1 in
    let one = one_kind x both.0 in
    omega (
      arith,
      rest,
      one,
      count_next (is_of kinds.Room) x xs,
      count_next (is_of kinds.Source) x xs,
      count_next (is_of kinds.Slot) x xs,
      count_next (is_of kinds.Sub) x xs,
      count_next (is_of kinds.Mute) x xs,
      count_next (is_of kinds.Gain) x xs,
      count_next (is_of kinds.Pin) x xs,
      count_next (is_of kinds.Floor) x xs,
    ) where
      one_kind : (x : Row) → not (is_of kinds.Member x) ≡ true →
          ◌≡◌ {A = ℕ} 1 (((cond (is_of kinds.Room x) 1 0 + cond (is_of kinds.Source x) 1 0)
          + (cond (is_of kinds.Slot x) 1 0 + cond (is_of kinds.Sub x) 1 0))
          + ((cond (is_of kinds.Mute x) 1 0 + cond (is_of kinds.Gain x) 1 0)
          + (cond (is_of kinds.Pin x) 1 0 + cond (is_of kinds.Floor x) 1 0)))
      one_kind (rows.Member r) h = cc
      one_kind _ h = refl

-- the place of an owner's kind, by that of the kind
owner_rank : ℕ → ℕ
owner_rank n =
    if nat_eq n (rank kinds.Sub) then rank kinds.Slot else
    if nat_eq n (rank kinds.Mute) then rank kinds.Source else
    if nat_eq n (rank kinds.Pin) || nat_eq n (rank kinds.Floor) then rank kinds.Room else n

owner_ranks : (k : Key) → rank (kind_of (owner_of k)) ≡ owner_rank (rank (kind_of k))
unfolding owner_rank
owner_ranks (keys.Room n) = refl
owner_ranks _ = refl

members_are : (ms : List Member) → list_all (is_of kinds.Member) (map rows.Member ms) ≡ true
members_are [] = refl
members_are (m ∷ ms) = members_are ms

-- a row that is no member's is among the other rows
pub among_others : (d : Desk) (r : Row) → is_of kinds.Member r ≡ false → is_in (rows_of d) r ≡ true
    → is_in d.others r ≡ true
among_others d r other one =
    elim (or_cases (is_in (map rows.Member d.members) r) (is_in d.others r)
    (sym (is_in-append (map rows.Member d.members) d.others r) ∙ one)) [
      | inl member ↦
          absurd
          (true_false
          (sym (at_each (is_of kinds.Member) (map rows.Member d.members) r (members_are d.members) member) ∙ other))
      | inr here ↦ here
    ]

itself : (d : Desk) (x : Row) → is_in (rows_of d) x ≡ true → list_any (has_key (key_of x)) (rows_of d) ≡ true
itself d x one =
    count_some (has_key (key_of x)) (rows_of d)
    (any_counts (has_key (key_of x)) (rows_of d) x one (key_itself (key_of x)))

-- a row's owner is there: it is named, or the row itself
owner_named : (d : Desk) (x : Row) → is_in (rows_of d) x ≡ true → is_named_there d x ≡ true
    → list_any (has_key (owner_key x)) (rows_of d) ≡ true
owner_named d (rows.Sub s) one h =
    (and_parts _ true (and_parts (list_any (has_key (keys.Source s.source)) (rows_of d)) _ h).1).0
owner_named d (rows.Mute m) one h = (and_parts _ true h).0
owner_named d (rows.Pin p) one h = (and_parts (list_any (has_key (keys.Room p.room)) (rows_of d)) _ h).0
owner_named d (rows.Floor f) one h = (and_parts (list_any (has_key (keys.Room f.room)) (rows_of d)) _ h).0
owner_named d x one h = itself d x one

-- a good desk has no more rows of a kind than of the kind of their owners
module _ (d : Desk) (g : good d ≡ true) (kind owner : Kind) (owns : owner_rank (rank kind) ≡ rank owner)
    (other : nat_eq (rank owner) (rank kinds.Member) ≡ false) where
  owner_there : (x : Row) → is_in d.others x ≡ true → is_of kind x ≡ true
      → list_any (has_key (owner_key x)) (filter (is_of owner) d.others) ≡ true
  owner_there x one of =
      let k = owner_key x in
      let there : is_in (rows_of d) x ≡ true = is_in-append (map rows.Member d.members) d.others x ∙ or_right _ _ one in
      let w =
      witness (has_key k) (rows_of d)
      (owner_named d x there (at_each (is_named_there d) (rows_of d) x (good_parts d g).named there)) in
      let ranks : rank (kind_of (key_of w.0)) ≡ rank owner =
      ap (λ q. rank (kind_of q)) (its_key k w.0 w.2)
      ∙ owner_ranks (key_of x)
      ∙ ap owner_rank (eqb-true _ _ of)
      ∙ owns in
      let is_owner : is_of owner w.0 ≡ true = eq-eqb _ _ ranks in
      let here : is_in d.others w.0 ≡ true =
      among_others d w.0 (ap (λ n. nat_eq n (rank kinds.Member)) ranks ∙ other) w.1 in
      let stays : is_in (filter (is_of owner) d.others) w.0 ≡ true =
      is_in-filter (is_of owner) w.0 d.others ∙ and_from _ _ here is_owner in
      count_some (has_key k) (filter (is_of owner) d.others)
      (any_counts (has_key k) (filter (is_of owner) d.others) w.0 stays w.2)

  owned_few : count_by (is_of kind) d.others ≤ count_by (is_of owner) d.others
  owned_few =
      let these = filter (is_of kind) d.others in
      let l =
      each_has_its_own kind these (filter (is_of owner) d.others)
      (in_order-filter (is_of kind) d.others (good_order d g)) (all_pass (is_of kind) d.others)
      (from_each (λ x. list_any (has_key (owner_key x)) (filter (is_of owner) d.others)) these (λ x one.
      let both = and_parts (is_in d.others x) (is_of kind x) (sym (is_in-filter (is_of kind) x d.others) ∙ one) in
      owner_there x both.0 both.1)) in
      omega (arith, l, length-filter (is_of kind) d.others, length-filter (is_of owner) d.others)

all_members : (ms : List Member) → count_by (λ m. is_of kinds.Member (rows.Member m)) ms ≡ length ms
all_members [] = refl
all_members (m ∷ ms) =
    let rest = all_members ms in omega (arith, rest, count_next (λ m. is_of kinds.Member (rows.Member m)) m ms)

-- the tables of a good desk have the capacity for its rows
pub few_rows : (d : Desk) → good d ≡ true → (length d.members ≤ member_limit) × (length d.others ≤ other_limit)
unfolding owner_rank
few_rows d g =
    let w = within_parts d g in
    let plain =
    (and_parts (in_order d.others) (list_all (λ r. not (is_of kinds.Member r)) d.others) (good_parts d g).listed).1 in
    let subs = owned_few d g kinds.Sub kinds.Slot refl refl in
    let mutes = owned_few d g kinds.Mute kinds.Source refl refl in
    let pins = owned_few d g kinds.Pin kinds.Room refl refl in
    let floors = owned_few d g kinds.Floor kinds.Room refl refl in (
      omega (arith, w.members, rows_count (is_of kinds.Member) d, all_members d.members),
      omega (
        arith,
        w.rooms,
        w.sources,
        w.slots,
        w.gains,
        subs,
        mutes,
        pins,
        floors,
        of_eight_kinds d.others plain,
        rows_count (is_of kinds.Room) d,
        rows_count (is_of kinds.Source) d,
        rows_count (is_of kinds.Slot) d,
        rows_count (is_of kinds.Gain) d,
      ),
    )

-- and so have those of its slots and of their subscriptions
pub few_slots : (d : Desk) → good d ≡ true
    → (length (filter (is_of kinds.Sub) d.others) ≤ slot_limit)
    × (length (filter (is_of kinds.Slot) d.others) ≤ slot_limit)
unfolding owner_rank
few_slots d g =
    let w = within_parts d g in
    let subs = owned_few d g kinds.Sub kinds.Slot refl refl in
    let slots = rows_count (is_of kinds.Slot) d in (
      omega (arith, w.slots, slots, subs, length-filter (is_of kinds.Sub) d.others),
      omega (arith, w.slots, slots, length-filter (is_of kinds.Slot) d.others),
    )

-- and so has each number of them
pub rows_few : (p : Row → Bool) (d : Desk) → good d ≡ true → count_by p (rows_of d) ≤ member_limit + other_limit
rows_few p d g =
    let few = few_rows d g in
    let members = filter_count p (map rows.Member d.members) in
    let others = filter_count p d.others in
    omega (
      arith,
      few.0,
      few.1,
      members,
      others,
      count_by-append p (map rows.Member d.members) d.others,
      length-map d.members rows.Member,
    )

-- a desk without rows is good
pub good_blank : (bridge : ℕ) → good (blank bridge) ≡ true
unfolding good
good_blank bridge = refl
