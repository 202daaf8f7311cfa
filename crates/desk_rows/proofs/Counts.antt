-- Counts of rows, before and after an edit.
pub use Rattle.desk_rows.specs.laws.ListLaws.{true_false, count_by-map, any_count, all_count, some_count, count_some}
pub use Rattle.desk_rows.specs.laws.ListLaws.{no_count}
pub use Rattle.desk_rows.specs.laws.ClaimLaws.{witness}
use Rattle.std.specs.Prelude.{◌≡◌, ◌≤◌, ◌||◌, ◌∷◌, ◌++◌, ◌+◌, ◌-◌, ◌&&◌}
use Rattle.desk_rows.specs.laws.Words.{ℕ, Bool, true, List, [], refl, sym, ap, ◌∙◌, arith, map, nat_eq, not}
use Rattle.desk_rows.specs.laws.Words.{list_all-append, list_all-map, list_any, list_all, length, count_by, Placed, Row}
use Rattle.desk_rows.specs.laws.Words.{Member, Desk, rows_of, EditOf, outs, ins, exchanged, with_rows, in_order}
use Rattle.desk_rows.specs.laws.Words.{without_rows, take_at, come_rows, stay_rows, stay_count, go_count, come_count}
use Rattle.desk_rows.specs.laws.Words.{all_come, all_stay}
use Rattle.desk_rows.specs.laws.Laws.{Apt, outs_order}
use Rattle.desk_rows.specs.laws.ListLaws.{count_by-append}
use Rattle.desk_rows.specs.laws.OrderLaws.{count_by-with_rows, list_all-with_rows, list_any-with_rows}
use Rattle.desk_rows.specs.laws.OrderLaws.{count_by-without_rows, length-with_rows}
use Rattle.desk_rows.specs.laws.PlaceLaws.{count_by-put_at, count_by-take_at}

pub list_any-map : {X : Type 0} (f : X → Row) (p : Row → Bool) (xs : List X)
    → list_any p (map f xs) ≡ list_any (λ x. p (f x)) xs
list_any-map f p [] = refl
list_any-map f p (x ∷ xs) = ap (λ b. p (f x) || b) (list_any-map f p xs)

-- members and other rows
pub two_counts : {X : Type 0} (f : X → Row) (p : Row → Bool) (xs : List X) (rs : List Row)
    → count_by p (map f xs ++ rs) ≡ count_by (λ x. p (f x)) xs + count_by p rs
two_counts f p xs rs = count_by-append p (map f xs) rs ∙ ap (λ n. n + count_by p rs) (count_by-map f p xs)

pub rows_count : (p : Row → Bool) (d : Desk)
    → count_by p (rows_of d) ≡ count_by (λ m. p (Member m)) d.members + count_by p d.others
rows_count p d = two_counts Member p d.members d.others

-- before: what stays and what goes
pub before_count : (p : Row → Bool) (d : Desk) (e : EditOf) → in_order d.others ≡ true → Apt d e
    → count_by p (rows_of d) ≡ stay_count p d e + go_count p e
before_count p d e order a =
    let members = count_by-take_at (λ m. p (Member m)) e.taken.members d.members a.take in
    let others = count_by-without_rows p (outs e) d.others order (outs_order a) a.outs_there in
    let stay = two_counts Member p (take_at e.taken.members d.members) (without_rows (outs e) d.others) in
    let go = two_counts (λ (q : Placed). Member q.row) p e.taken.members (outs e) in
    omega (arith, rows_count p d, members, others, stay, go)

-- after: what stays and what comes
pub after_count : (p : Row → Bool) (d : Desk) (e : EditOf) → Apt d e
    → count_by p (rows_of (exchanged d e)) ≡ stay_count p d e + come_count p e
unfolding exchanged
after_count p d e a =
    let kept = take_at e.taken.members d.members in
    let left = without_rows (outs e) d.others in
    let members = count_by-put_at (λ m. p (Member m)) e.put.members kept a.put in
    let others = count_by-with_rows p (ins e) left in
    let stay = two_counts Member p kept left in
    let come = two_counts (λ (q : Placed). Member q.row) p e.put.members (ins e) in
    omega (arith, rows_count p (exchanged d e), members, others, stay, come)

pub others_after : (q : Row → Bool) (d : Desk) (e : EditOf) → in_order d.others ≡ true → Apt d e →
    (count_by q (outs e) ≤ count_by q d.others)
    × (count_by q (exchanged d e).others ≡ (count_by q d.others - count_by q (outs e)) + count_by q (ins e))
unfolding exchanged
others_after q d e order a =
    let out = count_by-without_rows q (outs e) d.others order (outs_order a) a.outs_there in
    let in' = count_by-with_rows q (ins e) (without_rows (outs e) d.others) in
    (omega (arith, out), omega (arith, out, in'))

-- what holds of all rows after, holds of those that come and of those that stay
pub all_after : (q : Row → Bool) (d : Desk) (e : EditOf) → Apt d e
    → list_all q (rows_of (exchanged d e)) ≡ (all_come q e && all_stay q d e)
all_after q d e a =
    let fails : Row → Bool = λ r. not (q r) in
    all_count q (rows_of (exchanged d e))
    ∙ apart _ (stay_count fails d e) (come_count fails e) (after_count fails d e a)
    ∙ sym (λ i. all_count q (come_rows e) i && all_count q (stay_rows d e) i) where
      apart : (n stay come : ℕ) → n ≡ stay + come → nat_eq n 0 ≡ (nat_eq come 0 && nat_eq stay 0)
      apart n stay come h = grind (arith, h)

pub two_alls : {X : Type 0} (f : X → Row) (q : Row → Bool) (xs : List X) (rs : List Row)
    → list_all q (map f xs ++ rs) ≡ (list_all (λ x. q (f x)) xs && list_all q rs)
two_alls f q xs rs = list_all-append q (map f xs) rs ∙ ap (λ b. b && list_all q rs) (list_all-map q f xs)

-- the rows of two lists in one
pub all_of_both : (q : Row → Bool) (rs ts : List Row) → list_all q (with_rows rs ts) ≡ (list_all q rs && list_all q ts)
all_of_both q rs ts = list_all-with_rows q rs ts

pub any_of_both : (q : Row → Bool) (rs ts : List Row) → list_any q (with_rows rs ts) ≡ (list_any q rs || list_any q ts)
any_of_both q rs ts = list_any-with_rows q rs ts

pub count_of_both : (q : Row → Bool) (rs ts : List Row) → count_by q (with_rows rs ts) ≡ count_by q rs + count_by q ts
count_of_both q rs ts = count_by-with_rows q rs ts

pub length_of_both : (rs ts : List Row) → length (with_rows rs ts) ≡ length ts + length rs
length_of_both rs ts = length-with_rows rs ts
