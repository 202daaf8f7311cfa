-- What is asked of rows and an edit to judge the desk that it leads to.
use Rattle.std.specs.Prelude.{◌≡◌, ◌||◌, ◌+◌, ◌&&◌}
use Rattle.desk_rows.specs.declared.key.Key.{Key}
use Rattle.desk_rows.specs.declared.row.Row.{Row}
use Rattle.desk_rows.specs.declared.row.Row.TheVariants.{Member}
use Rattle.desk_rows.specs.laws.Words.{ℕ, Bool, true, nat_lt, ap, ◌∙◌, arith, nat_eq, not, nat_le, list_all, is_some}
use Rattle.desk_rows.specs.laws.Words.{count_by, Desk, rows_of, row_at, is_within_limits, good}
use Rattle.desk_rows.specs.laws.Words.{EditOf, outs, ins, exchanged, is_apt, is_of, without_rows, take_at, takes}
use Rattle.desk_rows.specs.laws.Words.{stay_rows, stay_count, go_count, come_count, all_come, all_stay, moves, is_free}
use Rattle.desk_rows.specs.laws.Words.{stays_sound, keys_are_new, is_sound_beside, judged}
use Rattle.desk_rows.specs.declared.key.Kind.TheVariants as kinds
use Rattle.desk_rows.specs.laws.Laws.{outs_order, apt_parts, good_order}
use Rattle.desk_rows.specs.laws.ListLaws.{all_count}
use Rattle.desk_rows.specs.laws.OrderLaws.{count_by-with_rows, count_by-without_rows}
use Rattle.desk_rows.specs.laws.PlaceLaws.{count_by-take_at}
use Rattle.desk_rows.proofs.AbsorbLemmas.{others_balance}
use Rattle.desk_rows.proofs.Counts.{two_counts, before_count, after_count}
use Rattle.reversible_rows.proofs.NewKeys.{stays_found, judged_right}

pub free_is : (d : Desk) (e : EditOf) (key : Key) → good d ≡ true → is_apt d e ≡ true
    → is_free d e key ≡ (not (is_some (row_at d key)) || takes e key)
free_is d e key g h =
    ap not (stays_found d e g (apt_parts d e h) key) ∙ turned (is_some (row_at d key)) (takes e key) where
      turned : (a b : Bool) → not (a && not b) ≡ (not a || b)
      turned a b = grind arith

-- ---- counts

balance : (p : Row → Bool) (d : Desk) (e : EditOf) → good d ≡ true → is_apt d e ≡ true
    → count_by p (rows_of d) + come_count p e ≡ count_by p (rows_of (exchanged d e)) + go_count p e
balance p d e g h =
    let a = apt_parts d e h in
    let before = before_count p d e (good_order d g) a in
    let after = after_count p d e a in
    omega (arith, before, after)

-- no more pass than may, where with those that come no more do than may and go
pub most_is : (p : Row → Bool) (d : Desk) (e : EditOf) (limit : ℕ) → good d ≡ true → is_apt d e ≡ true →
    nat_le (count_by p (rows_of d) + come_count p e) (limit + go_count p e)
    ≡ nat_le (count_by p (rows_of (exchanged d e))) limit
most_is p d e limit g h =
    ap (λ n. nat_le n (limit + go_count p e)) (balance p d e g h) ∙ less _ (go_count p e) limit where
      less : (n go limit : ℕ) → nat_le (n + go) (limit + go) ≡ nat_le n limit
      less n go limit = grind arith

pub one_is : (p : Row → Bool) (d : Desk) (e : EditOf) → good d ≡ true → is_apt d e ≡ true →
    nat_eq (count_by p (rows_of d) + come_count p e) (1 + go_count p e)
    ≡ nat_eq (count_by p (rows_of (exchanged d e))) 1
one_is p d e g h = ap (λ n. nat_eq n (1 + go_count p e)) (balance p d e g h) ∙ same _ (go_count p e) where
  same : (n go : ℕ) → nat_eq (n + go) (1 + go) ≡ nat_eq n 1
  same n go = grind arith

pub over_is : (p : Row → Bool) (d : Desk) (e : EditOf) (limit : ℕ) → good d ≡ true → is_apt d e ≡ true →
    nat_lt (limit + (count_by p e.taken.others + count_by p e.replaced.old))
    (count_by p d.others + (count_by p e.put.others + count_by p e.replaced.new))
    ≡ not (nat_le (count_by p (exchanged d e).others) limit)
over_is p d e limit g h =
    ap (λ n. nat_lt (limit + (count_by p e.taken.others + count_by p e.replaced.old)) n) (others_balance p d e g h)
    ∙ more _ (count_by p e.taken.others + count_by p e.replaced.old) limit where
      more : (n go limit : ℕ) → nat_lt (limit + go) (n + go) ≡ not (nat_le n limit)
      more n go limit = grind arith

-- those that stay pass exactly where as many fail before as go
pub stay_test : (q : Row → Bool) (d : Desk) (e : EditOf) → good d ≡ true → is_apt d e ≡ true → all_stay q d e
    ≡ (nat_eq (count_by (λ m. not (q (Member m))) d.members) (count_by (λ p. not (q (Member p.row))) e.taken.members)
    && nat_eq (count_by (λ r. not (q r)) d.others)
    (count_by (λ r. not (q r)) e.taken.others + count_by (λ r. not (q r)) e.replaced.old))
stay_test q d e g h =
    let a = apt_parts d e h in
    let members = count_by-take_at (λ m. not (q (Member m))) e.taken.members d.members a.take in
    let others =
    count_by-without_rows (λ r. not (q r)) (outs e) d.others (good_order d g) (outs_order a) a.outs_there in
    let out = count_by-with_rows (λ r. not (q r)) e.replaced.old e.taken.others in
    let fails : Row → Bool = λ r. not (q r) in
    all_count q (stay_rows d e) ∙ apart (stay_count fails d e)
    (count_by (λ m. fails (Member m)) (take_at e.taken.members d.members))
    (count_by fails (without_rows (outs e) d.others))
    (count_by (λ m. fails (Member m)) d.members) (count_by (λ p. fails (Member p.row)) e.taken.members)
    (count_by fails d.others) (count_by fails e.taken.others + count_by fails e.replaced.old)
    (two_counts Member fails (take_at e.taken.members d.members) (without_rows (outs e) d.others)) members
    (omega (arith, others, out)) where
      apart : (s m n a b c d : ℕ) → s ≡ m + n → m + b ≡ a → n + d ≡ c → nat_eq s 0 ≡ (nat_eq a b && nat_eq c d)
      apart s m n a b c d h k l = grind (arith, h, k, l)

-- ---- the whole

pub good_tests : (d : Desk) (e : EditOf) → good d ≡ true → is_apt d e ≡ true → good (exchanged d e)
    ≡ ((list_all (λ r. not (is_of kinds.Member r)) (ins e) && keys_are_new d e)
    && (is_within_limits (exchanged d e)
    && (all_come (is_sound_beside (exchanged d e)) e && all_stay (stays_sound (moves d e) d e) d e)))
unfolding judged
good_tests d e g h = judged_right d e g (apt_parts d e h)
