-- Whether a row of a key is there, before and after edits.
use Rattle.std.specs.Prelude.{◌||◌, ◌∷◌, ◌++◌, ◌+◌, ◌≤◌}
use Rattle.desk_rows.specs.laws.Words.{◌≡◌, ℕ, Bool, true, List, [], map, sym, ap, ◌∙◌, arith, nat_lt}
use Rattle.desk_rows.specs.laws.Words.{and_parts, nat_tests, list_any, list_any-append, count_by, rows_of, has_key}
use Rattle.desk_rows.specs.laws.Words.{with_rows}
use Rattle.desk_rows.specs.declared.edit.Placed.{Placed}
use Rattle.desk_rows.specs.declared.row.Row.{Row}
use Rattle.desk_rows.specs.declared.key.Key.{Key}
use Rattle.desk_rows.specs.Desk.{Desk}
use Rattle.desk_rows.specs.Edit.{EditOf}
use Rattle.desk_rows.specs.Exchange.{exchanged, fits, after}
use Rattle.desk_rows.specs.laws.ListLaws.{or_turned}
use Rattle.desk_rows.specs.declared.row.Row.TheVariants.{Member}
use Rattle.desk_rows.specs.laws.Laws.{fits_parts, after_fits}
use Rattle.desk_rows.specs.inner.judging.Judged.{stay_rows, go_rows, come_rows}
use Rattle.desk_rows.proofs.Counts.{any_count, list_any-map, any_of_both}
use Rattle.desk_rows.proofs.Finding.{keyed_good, before, later}
use Rattle.std.specs.List.{fold}
use Rattle.undo_log.specs.Timeline.{all_fit}
use Rattle.desk_edit.specs.Refusals.{has}
use Rattle.desk_revert.specs.Moving.{differ, takes_key, puts_key, bring_or_take}

listed : (key : Key) (ps : List Placed) (rs more : List Row)
    → list_any (has_key key) (map (λ p. Member p.row) ps ++ with_rows more rs)
    ≡ (list_any (λ p. has_key key (Member p.row)) ps || (list_any (has_key key) rs || list_any (has_key key) more))
listed key ps rs more =
    list_any-append (has_key key) (map (λ p. Member p.row) ps) (with_rows more rs)
    ∙ (λ i. list_any-map (λ (p : Placed). Member p.row) (has_key key) ps i || any_of_both (has_key key) more rs i)
    ∙ ap (λ b. list_any (λ p. has_key key (Member p.row)) ps || b)
    (or_turned (list_any (has_key key) more) (list_any (has_key key) rs))

counted : (a b go come stay : ℕ) → a ≡ stay + go → b ≡ stay + come → a ≤ 1 → b ≤ 1
    → differ (nat_lt 0 a) (nat_lt 0 b) ≡ differ (nat_lt 0 go) (nat_lt 0 come)
counted a b go come stay before after few fewer = grind (arith, nat_tests, before, after, few, fewer)

pub one_edit : (d : Desk) (e : EditOf) (key : Key) → fits d e ≡ true
    → differ (has d key) (has (after d e) key) ≡ differ (takes_key e key) (puts_key e key)
one_edit d e key fit =
    let f = fits_parts d e fit in
    let p = has_key key in
    let was = count_by p (rows_of d) in
    let is = count_by p (rows_of (exchanged d e)) in
    ap (λ x. differ (has d key) (has x key)) (after_fits d e fit)
    ∙ (λ i. differ (any_count p (rows_of d) i) (any_count p (rows_of (exchanged d e)) i))
    ∙ counted was is (count_by p (go_rows e)) (count_by p (come_rows e)) (count_by p (stay_rows d e))
    (before d e f.before f.apt p) (later d e f.before f.apt p) ((keyed_good d f.before).once key)
    ((keyed_good (exchanged d e) f.later).once key)
    ∙ sym (λ i. differ (any_count p (go_rows e) i) (any_count p (come_rows e) i))
    ∙ (λ i. differ (listed key e.taken.members e.taken.others e.replaced.old i)
    (listed key e.put.members e.put.others e.replaced.new i))

through : (a b c : Bool) → differ a c ≡ differ (differ a b) (differ b c)
through a b c = grind arith

-- edits that fit bring or take the row of a key where it is there in one of both desks alone
pub all_edits : (d : Desk) (es : List EditOf) (key : Key) → all_fit fits after d es ≡ true
    → differ (has d key) (has (fold after d es) key) ≡ bring_or_take es key
all_edits d [] key fit = grind arith
all_edits d (e ∷ es) key fit =
    let both = and_parts (fits d e) (all_fit fits after (after d e) es) fit in
    through (has d key) (has (after d e) key) (has (fold after (after d e) es) key)
    ∙ (λ i. differ (one_edit d e key both.0 i) (all_edits (after d e) es key both.1 i))

-- what was found of all edits, where none is left
pub so_far : (es rest : List EditOf) (key : Key) (moved : Bool) → rest ≡ []
    → differ moved (bring_or_take rest key) ≡ bring_or_take es key → moved ≡ bring_or_take es key
so_far es rest key moved none sum =
    let alone : differ moved (bring_or_take rest key) ≡ moved =
    ap (λ l. differ moved (bring_or_take l key)) none ∙ grind arith in
    sym alone ∙ sum

pub told : (d : Desk) (es rest : List EditOf) (key : Key) (moved : Bool) → rest ≡ []
    → differ moved (bring_or_take rest key) ≡ bring_or_take es key → all_fit fits after d es ≡ true
    → moved ≡ differ (has d key) (has (fold after d es) key)
told d es rest key moved none sum fit = so_far es rest key moved none sum ∙ sym (all_edits d es key fit)
