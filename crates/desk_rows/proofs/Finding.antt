-- What a key finds in a desk, and in one that an edit leads to.
pub use Rattle.desk_rows.specs.laws.ListLaws.{found_nothing, is_found}
use Rattle.std.specs.Prelude.{◌≡◌, ◌≤◌, ◌∷◌, ◌+◌}
use Rattle.desk_rows.specs.laws.Words.{Bool, true, false, List, [], None, Some, sym, ap, ◌∙◌, arith, not, inl, inr}
use Rattle.desk_rows.specs.laws.Words.{and_parts, cases_Bool, false_from_ne_true, find, list_any, list_all, count_by}
use Rattle.desk_rows.specs.laws.Words.{Key, Row, Desk, rows_of, row_at, is_alone, good, EditOf, exchanged, IsKeyed}
use Rattle.desk_rows.specs.laws.Words.{is_of, is_in, in_order, precedes, key_precedes, same_row, has_key, key_of}
use Rattle.desk_rows.specs.laws.Words.{come_rows, takes, puts, stay_rows, go_rows}
use Rattle.desk_rows.specs.declared.key.Kind.TheVariants as kinds
use Rattle.desk_rows.specs.declared.claim.Claim.TheVariants as claims
use Rattle.desk_rows.specs.laws.ClaimLaws.{witness, claimed_once}
use Rattle.desk_rows.specs.laws.Equal.{its_key, not_before_itself, same_row_is, row_itself}
use Rattle.desk_rows.specs.laws.Laws.{Apt, good_parts, good_order, any_counts}
use Rattle.desk_rows.specs.laws.ListLaws.{true_false, count_yes, count_no, some_count, count_some, no_count, none_any}
use Rattle.desk_rows.specs.laws.ListLaws.{found_once}
use Rattle.desk_rows.specs.laws.OrderLaws.{at_each}
use Rattle.desk_rows.proofs.Counts.{before_count, after_count}

-- ---- rows found

-- the one row of a key is found
pub found_one : (p : Row → Bool) (rs : List Row) (r : Row) → count_by p rs ≤ 1 → is_in rs r ≡ true → p r ≡ true
    → find p rs ≡ Some r
found_one p rs r once one e =
    let f =
    found_once p (same_row r) (λ x s. ap p (sym (same_row_is r x s)) ∙ e) rs (some_count (same_row r) rs one) once in
    f.1 ∙ ap Some (sym (same_row_is r f.0 f.2))

-- what is found passes the test, and any other that it passes is passed by one
found_among : (one p : Row → Bool) (r : Row) → one r ≡ true → (rs : List Row) → find p rs ≡ Some r
    → (list_any one rs ≡ true) × (p r ≡ true)
found_among one p r its [] h = cc
found_among one p r its (x ∷ rs) h = grind (arith, h, its, found_among one p r its rs)

pub found_there : (p : Row → Bool) (rs : List Row) (r : Row) → find p rs ≡ Some r → (is_in rs r ≡ true) × (p r ≡ true)
found_there p rs r h = found_among (same_row r) p r (row_itself r) rs h

-- ---- how often a key is there

-- in rows in order, once at most
pub order_once : (key : Key) (rs : List Row) → in_order rs ≡ true → count_by (has_key key) rs ≤ 1
order_once key [] h = omega arith
order_once key (r ∷ rs) h =
    let both = and_parts (list_all (precedes r) rs) (in_order rs) h in
    elim (cases_Bool (has_key key r)) [
      | inl e ↦
          let none = no_count (has_key key) rs (false_from_ne_true _ (λ some.
          let w = witness (has_key key) rs some in
          true_false (sym (at_each (precedes r) rs w.0 both.0 w.1)
          ∙ ap (λ k. key_precedes (key_of r) k) (its_key key w.0 w.2 ∙ sym (its_key key r e))
          ∙ not_before_itself r))) in
          omega (arith, count_yes (has_key key) r rs e, none)
      | inr e ↦ omega (arith, count_no (has_key key) r rs e, order_once key rs both.1)
    ]

-- where each row has what it claims alone, each key is there once at most
pub keyed_alone : (d : Desk) → list_all (is_alone d) (rows_of d) ≡ true
    → list_all (λ r. not (is_of kinds.Member r)) d.others ≡ true → IsKeyed d
keyed_alone d alone plain = record { once = λ key. claimed_once d (claims.Key key) alone; plain = plain }

pub keyed_good : (d : Desk) → good d ≡ true → IsKeyed d
keyed_good d g = keyed_alone d (good_parts d g).alone (and_parts (in_order d.others) _ (good_parts d g).listed).1

-- ---- given a good desk and an apt edit

module _ (d : Desk) (e : EditOf) (g : good d ≡ true) (a : Apt d e) where
  pub before : (p : Row → Bool) → count_by p (rows_of d) ≡ count_by p (stay_rows d e) + count_by p (go_rows e)
  before p = before_count p d e (good_order d g) a

  pub later : (p : Row → Bool)
      → count_by p (rows_of (exchanged d e)) ≡ count_by p (stay_rows d e) + count_by p (come_rows e)
  later p = after_count p d e a

  pub came : (r : Row) → is_in (come_rows e) r ≡ true → is_in (rows_of (exchanged d e)) r ≡ true
  came r one =
      let n = later (same_row r) in
      count_some (same_row r) (rows_of (exchanged d e)) (omega (arith, n, some_count (same_row r) (come_rows e) one))

  pub stayed : (r : Row) → is_in (stay_rows d e) r ≡ true → is_in (rows_of (exchanged d e)) r ≡ true
  stayed r one =
      let n = later (same_row r) in
      count_some (same_row r) (rows_of (exchanged d e)) (omega (arith, n, some_count (same_row r) (stay_rows d e) one))

  -- a row that stays was there
  pub was_there : (r : Row) → is_in (stay_rows d e) r ≡ true → is_in (rows_of d) r ≡ true
  was_there r one =
      let n = before (same_row r) in
      count_some (same_row r) (rows_of d) (omega (arith, n, some_count (same_row r) (stay_rows d e) one))

  -- and one that was there stays where its key is not taken
  pub untaken : (key : Key) (r : Row) → takes e key ≡ false → is_in (rows_of d) r ≡ true → has_key key r ≡ true
      → is_in (stay_rows d e) r ≡ true
  untaken key r stays one its =
      let stays_here =
      false_from_ne_true (is_in (go_rows e) r) (λ goes.
      true_false
      (sym (count_some (has_key key) (go_rows e) (any_counts (has_key key) (go_rows e) r goes its)) ∙ stays)) in
      count_some (same_row r) (stay_rows d e) (omega (
        arith,
        before (same_row r),
        some_count (same_row r) (rows_of d) one,
        no_count (same_row r) (go_rows e) stays_here,
      ))

  -- ---- what a key finds afterwards

  module _ (keyed : IsKeyed (exchanged d e)) where
    pub found_coming : (key : Key) (r : Row) → is_in (come_rows e) r ≡ true → has_key key r ≡ true
        → row_at (exchanged d e) key ≡ Some r
    found_coming key r one e' = found_one (has_key key) (rows_of (exchanged d e)) r (keyed.once key) (came r one) e'

    pub found_gone : (key : Key) → puts e key ≡ false → takes e key ≡ true → row_at (exchanged d e) key ≡ None
    found_gone key absent goes = found_nothing (has_key key) (rows_of (exchanged d e)) (false_from_ne_true _ (λ some.
        let come = no_count (has_key key) (come_rows e) absent in
        let go = some_count (has_key key) (go_rows e) goes in
        let there = some_count (has_key key) (rows_of (exchanged d e)) some in
        omega (arith, later (has_key key), before (has_key key), come, go, there, (keyed_good d g).once key)))

    pub found_kept : (key : Key) (r : Row) → takes e key ≡ false → row_at d key ≡ Some r
        → row_at (exchanged d e) key ≡ Some r
    found_kept key r stays h =
        let there = found_there (has_key key) (rows_of d) r h in
        found_one (has_key key) (rows_of (exchanged d e)) r (keyed.once key)
        (stayed r (untaken key r stays there.0 there.1)) there.1

    pub found_still : (key : Key) → puts e key ≡ false → takes e key ≡ false → row_at (exchanged d e) key ≡ row_at d key
    found_still key absent stays = elim (cases_Bool (list_any (has_key key) (rows_of d))) [
      | inl some ↦
          let w = witness (has_key key) (rows_of d) some in
          let was = found_one (has_key key) (rows_of d) w.0 ((keyed_good d g).once key) w.1 w.2 in
          found_kept key w.0 stays was ∙ sym was
      | inr none ↦
          let was = no_count (has_key key) (rows_of d) none in
          let come = no_count (has_key key) (come_rows e) absent in
          found_nothing (has_key key) (rows_of (exchanged d e)) (none_any (has_key key) (rows_of (exchanged d e))
          (omega (arith, later (has_key key), before (has_key key), was, come)))
          ∙ sym (found_nothing (has_key key) (rows_of d) none)
    ]
