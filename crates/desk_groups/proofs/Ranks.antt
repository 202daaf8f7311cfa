-- The rows of a desk in the order in which they are made.
use Rattle.std.specs.Prelude.{◌≡◌, ◌+◌, ◌≤◌, ◌&&◌, ◌∷◌, ◌++◌}
use Rattle.desk_rows.specs.laws.Words.{ℕ, nat_le, nat_eq, Bool, true, false, not, cond, List, [], map, filter, count_by}
use Rattle.desk_rows.specs.laws.Words.{refl, sym, ap, ◌∙◌, arith, eqb-true, eq-eqb, append-nil, list_all}
use Rattle.desk_rows.specs.laws.Words.{list_all-append}
use Rattle.desk_rows.specs.laws.Words.{and_parts, and_from, rank, kind_of, key_of, is_of, in_order}
use Rattle.desk_rows.specs.laws.Words.{Desk, good, rows_of}
use Rattle.desk_rows.specs.declared.row.Row.{Row}
use Rattle.desk_rows.specs.declared.row.Member.{Member as MemberRow}
use Rattle.desk_rows.specs.declared.key.Kind.{Kind}
use Rattle.desk_rows.specs.laws.ListLaws.{true_false, count_next, count_by-append, count_by-filter, list_all-filter}
use Rattle.desk_rows.specs.laws.ListLaws.{all_pass}
use Rattle.desk_rows.specs.laws.OrderLaws.{count_by-with_rows}
use Rattle.desk_rows.specs.laws.Laws.{good_parts}
use Rattle.desk_edit.specs.inner.Levels.{level}
use Rattle.desk_rows.specs.declared.row.Row.TheVariants as rows
use Rattle.desk_rows.specs.declared.key.Kind.TheVariants as kinds
use Rattle.desk_rows.specs.Desk.{blank}
use Rattle.desk_groups.specs.Making.{united}
use Rattle.desk_groups.specs.Rooms.{is_in_room, room_rows}
use Rattle.desk_groups.specs.inner.Ranked.{level_of, levels_rise, kind_by_kind, later_kinds, in_making_order}
use Rattle.desk_groups.specs.inner.Ranked.{members_among}
use Rattle.desk_groups.proofs.RowLemmas.{at_most, most, not_above, all_both, two_counts, rows_count}
use Rattle.desk_groups.proofs.Steps.{IsPart}

-- ---- kinds

-- the kind of a rank
abbrev kind_at : ℕ → Kind
kind_at n =
    cond (nat_eq n (rank kinds.Room)) kinds.Room
    (cond (nat_eq n (rank kinds.Member)) kinds.Member (cond (nat_eq n (rank kinds.Source)) kinds.Source
    (cond (nat_eq n (rank kinds.Slot)) kinds.Slot
    (cond (nat_eq n (rank kinds.Sub)) kinds.Sub (cond (nat_eq n (rank kinds.Mute)) kinds.Mute
    (cond (nat_eq n (rank kinds.Gain)) kinds.Gain (cond (nat_eq n (rank kinds.Pin)) kinds.Pin kinds.Floor)))))))

kind_back : (kind : Kind) → kind_at (rank kind) ≡ kind
kind_back kinds.Room = refl
kind_back _ = refl

its_kind : (kind : Kind) (x : Row) → is_of kind x ≡ true → kind_of (key_of x) ≡ kind
its_kind kind x e =
    sym (kind_back (kind_of (key_of x)))
    ∙ ap kind_at (eqb-true (rank (kind_of (key_of x))) (rank kind) e)
    ∙ kind_back kind

-- ---- levels rise

abbrev from_level : ℕ → List Row → Bool
from_level n rs = list_all (λ x. nat_le n (level_of x)) rs

level_rises : (n : ℕ) (xs ys : List Row) → list_all (λ x. nat_eq (level_of x) n) xs ≡ true → from_level n ys ≡ true
    → levels_rise ys ≡ true → (levels_rise (xs ++ ys) ≡ true) × (from_level n (xs ++ ys) ≡ true)
level_rises n [] ys at low rise = (rise, low)
level_rises n (x ∷ xs) ys at low rise =
    let both = and_parts (nat_eq (level_of x) n) (list_all (λ x. nat_eq (level_of x) n) xs) at in
    let rest = level_rises n xs ys both.1 low rise in
    let is = eqb-true (level_of x) n both.0 in
    let own : nat_le n (level_of x) ≡ true = ap (λ k. nat_le n k) is ∙ not_above n in
    (and_from _ _ (ap (λ k. from_level k (xs ++ ys)) is ∙ rest.1) rest.0, and_from _ _ own rest.1)

from_lower : (m n : ℕ) (xs : List Row) → nat_le m n ≡ true → from_level n xs ≡ true → from_level m xs ≡ true
from_lower m n xs less low =
    all_both (λ x. nat_le n (level_of x)) (λ x. nat_le n (level_of x)) (λ x. nat_le m (level_of x))
    (λ x a b. most m (level_of x) (omega (arith, at_most m n less, at_most n (level_of x) a))) xs low low

at_kind : (kind : Kind) (xs : List Row)
    → list_all (λ x. nat_eq (level_of x) (level kind)) (filter (is_of kind) xs) ≡ true
at_kind kind xs =
    all_both (is_of kind) (is_of kind) (λ x. nat_eq (level_of x) (level kind))
    (λ x a b. eq-eqb (level_of x) (level kind) (ap level (its_kind kind x a))) (filter (is_of kind) xs)
    (all_pass (is_of kind) xs) (all_pass (is_of kind) xs)

abbrev kinds_rise : ℕ → List Kind → Bool
kinds_rise n [] = true
kinds_rise n (kind ∷ ks) = nat_le n (level kind) && kinds_rise (level kind) ks

ranked : (n : ℕ) (ks : List Kind) (xs : List Row) → kinds_rise n ks ≡ true
    → (levels_rise (kind_by_kind ks xs) ≡ true) × (from_level n (kind_by_kind ks xs) ≡ true)
ranked n [] xs h = (refl, refl)
ranked n (kind ∷ ks) xs h =
    let both = and_parts (nat_le n (level kind)) (kinds_rise (level kind) ks) h in
    let rest = ranked (level kind) ks xs both.1 in
    let all =
    level_rises (level kind) (filter (is_of kind) xs) (kind_by_kind ks xs) (at_kind kind xs) rest.1 rest.0 in
    (all.0, from_lower n (level kind) (kind_by_kind (kind ∷ ks) xs) both.0 all.1)

at_members : (ms : List MemberRow) → list_all (λ x. nat_eq (level_of x) 1) (map rows.Member ms) ≡ true
at_members [] = refl
at_members (m ∷ ms) = at_members ms

pub making_rises : (d : Desk) → levels_rise (in_making_order d) ≡ true
making_rises d =
    let later = ranked 1 later_kinds d.others refl in
    let members =
    level_rises 1 (map rows.Member d.members) (kind_by_kind later_kinds d.others) (at_members d.members) later.1
    later.0 in
    let behind = map rows.Member d.members ++ kind_by_kind later_kinds d.others in
    (level_rises 0 (filter (is_of kinds.Room) d.others) behind (at_kind kinds.Room d.others)
    (from_lower 0 1 behind refl members.1) members.0).0

-- ---- members

abbrev pub are_plain : List Row → Bool
are_plain rs = list_all (λ r. not (is_of kinds.Member r)) rs

no_members : (xs ys : List Row) → are_plain xs ≡ true → members_among (xs ++ ys) ≡ members_among ys
no_members [] ys h = refl
no_members (rows.Member m ∷ xs) ys h = absurd (true_false (sym h))
no_members (r ∷ xs) ys h = no_members xs ys h

all_members : (ms : List MemberRow) (ys : List Row) → members_among (map rows.Member ms ++ ys) ≡ ms ++ members_among ys
all_members [] ys = refl
all_members (m ∷ ms) ys = ap (λ (zs : List MemberRow). m ∷ zs) (all_members ms ys)

plain_kinds : (ks : List Kind) (xs : List Row) → are_plain xs ≡ true → are_plain (kind_by_kind ks xs) ≡ true
plain_kinds [] xs h = refl
plain_kinds (kind ∷ ks) xs h =
    list_all-append (λ r. not (is_of kinds.Member r)) (filter (is_of kind) xs) (kind_by_kind ks xs)
    ∙ and_from _ _ (list_all-filter (λ r. not (is_of kinds.Member r)) (is_of kind) xs h) (plain_kinds ks xs h)

pub making_members : (d : Desk) → are_plain d.others ≡ true → members_among (in_making_order d) ≡ d.members
making_members d h =
    let later = kind_by_kind later_kinds d.others in
    no_members (filter (is_of kinds.Room) d.others) (map rows.Member d.members ++ later)
    (list_all-filter (λ r. not (is_of kinds.Member r)) (is_of kinds.Room) d.others h)
    ∙ all_members d.members later
    ∙ ap (λ (zs : List MemberRow). d.members ++ zs)
    (ap members_among (sym (append-nil later)) ∙ no_members later [] (plain_kinds later_kinds d.others h))
    ∙ append-nil d.members

-- ---- counts

filter_next : (p q : Row → Bool) (x : Row) (xs : List Row)
    → count_by p (filter q (x ∷ xs)) ≡ cond (q x && p x) 1 0 + count_by p (filter q xs)
filter_next p q x xs =
    let first = count_by-filter p q (x ∷ xs) in
    let rest = count_by-filter p q xs in
    let one = count_next (λ y. q y && p y) x xs in
    omega (arith, first, rest, one)

kinds_next : (p : Row → Bool) (x : Row) (xs : List Row) (ks : List Kind) →
    count_by p (kind_by_kind ks (x ∷ xs)) ≡ count_by (λ k. is_of k x && p x) ks + count_by p (kind_by_kind ks xs)
kinds_next p x xs [] = refl
kinds_next p x xs (kind ∷ ks) =
    let first : count_by p (kind_by_kind (kind ∷ ks) (x ∷ xs))
    ≡ count_by p (filter (is_of kind) (x ∷ xs)) + count_by p (kind_by_kind ks (x ∷ xs)) =
    count_by-append p (filter (is_of kind) (x ∷ xs)) (kind_by_kind ks (x ∷ xs)) in
    let second : count_by p (kind_by_kind (kind ∷ ks) xs)
    ≡ count_by p (filter (is_of kind) xs) + count_by p (kind_by_kind ks xs) =
    count_by-append p (filter (is_of kind) xs) (kind_by_kind ks xs) in
    let here = filter_next p (is_of kind) x xs in
    let rest = kinds_next p x xs ks in
    let one = count_next (λ k. is_of k x && p x) kind ks in
    omega (arith, first, second, here, rest, one)

one_kind : (x : Row) (b : Bool) → not (is_of kinds.Member x) ≡ true
    → count_by (λ k. is_of k x && b) (kinds.Room ∷ later_kinds) ≡ cond b 1 0
one_kind (rows.Member m) b h = absurd (true_false (sym h))
one_kind x true h = refl
one_kind x false h = refl

all_kinds : (p : Row → Bool) (xs : List Row) → are_plain xs ≡ true
    → count_by p (kind_by_kind (kinds.Room ∷ later_kinds) xs) ≡ count_by p xs
all_kinds p [] h = refl
all_kinds p (x ∷ xs) h =
    let both = and_parts (not (is_of kinds.Member x)) (are_plain xs) h in
    let next = kinds_next p x xs (kinds.Room ∷ later_kinds) in
    let one = one_kind x (p x) both.0 in
    let rest = all_kinds p xs both.1 in
    omega (arith, next, one, rest, count_next p x xs)

pub making_counts : (d : Desk) → are_plain d.others ≡ true → (p : Row → Bool)
    → count_by p (in_making_order d) ≡ count_by p (rows_of d)
making_counts d h p =
    let later = kind_by_kind later_kinds d.others in
    let rooms = filter (is_of kinds.Room) d.others in
    let first : count_by p (in_making_order d) ≡ count_by p rooms + count_by p (map rows.Member d.members ++ later) =
    count_by-append p rooms (map rows.Member d.members ++ later) in
    let members = two_counts p d.members later in
    let both : count_by p (kind_by_kind (kinds.Room ∷ later_kinds) d.others) ≡ count_by p rooms + count_by p later =
    count_by-append p rooms later in
    let all = all_kinds p d.others h in
    omega (arith, rows_count p d, first, members, both, all)

-- ---- a desk among others

pub plain_good : (d : Desk) → good d ≡ true → are_plain d.others ≡ true
plain_good d g = (and_parts (in_order d.others) (are_plain d.others) (good_parts d g).listed).1

pub united_part : (d more : Desk) → good d ≡ true → are_plain more.others ≡ true
    → IsPart d (united d more) (in_making_order more)
united_part d more g h = record {
  good = g;
  ssrc = refl;
  members = ap (λ (ms : List MemberRow). d.members ++ ms) (making_members more h);
  counts = λ p.
      let now = rows_count p (united d more) in
      let members = count_by-append (λ m. p (rows.Member m)) d.members more.members in
      let others = count_by-with_rows p more.others d.others in
      let made = making_counts more h p in
      omega (arith, rows_count p d, rows_count p more, now, members, others, made);
}

good_blank : (ssrc : ℕ) → good (blank ssrc) ≡ true
unfolding good
good_blank ssrc = refl

-- the rows of a room have no member among the others
pub plain_room : (d : Desk) (room : ℕ) → good d ≡ true → are_plain (room_rows d room).others ≡ true
plain_room d room g =
    list_all-filter (λ r. not (is_of kinds.Member r)) (is_in_room d room) d.others (plain_good d g)

pub blank_part : (d : Desk) → good d ≡ true → IsPart (blank d.bridge_ssrc) d (in_making_order d)
blank_part d g = record {
  good = good_blank d.bridge_ssrc;
  ssrc = refl;
  members = making_members d (plain_good d g);
  counts = λ p. omega (arith, making_counts d (plain_good d g) p);
}
