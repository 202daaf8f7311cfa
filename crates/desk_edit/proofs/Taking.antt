-- A row is taken with all that depends on it: the desk stays good.
use Rattle.std.specs.Prelude.{◌≡◌, ◌≤◌, ◌&&◌}
use Rattle.desk_edit.proofs.Words.{nat_le, Bool, true, false, not, List, [], filter, inl, inr, refl, sym, ap, ◌∙◌}
use Rattle.desk_edit.proofs.Words.{arith, list_any, list_all, and_from, not-true, false_from_ne_true, Row, MemberRow}
use Rattle.desk_edit.proofs.Words.{Key, Kind, Placed, has_key, same_row, names, is_of, limits, is_in, without_rows}
use Rattle.desk_edit.proofs.Words.{places_rise, take_at, put_at, can_put, EditOf, Desk, good, rows_of, holds, count_of}
use Rattle.desk_edit.proofs.Words.{is_within_limits, stay_rows, go_rows, takes, gains_audio, at_each, from_each}
use Rattle.desk_edit.proofs.Words.{in_order-filter, is_in-filter, Apt, good_parts, good_order, true_false, witness}
use Rattle.desk_edit.proofs.Words.{some_count, count_some, two_alls, before_count, after_count, all_pass, Names}
use Rattle.desk_edit.proofs.Words.{Depends, goes_with, without, placed_from, takes_all}
use Rattle.desk_rows.specs.declared.row.Row.TheVariants as rows
use Rattle.desk_rows.specs.Exchange.{exchanged}
use Rattle.desk_rows.specs.inner.judging.Judged.{stays_sound}
use Rattle.desk_edit.proofs.Lists.{at_most, most, all_both, all_left, none_all, in_filter, filter_alike}
use Rattle.desk_edit.proofs.Dependence.{key_some, only_dependent, dependent_goes}
use Rattle.desk_edit.proofs.Placed.{picked, all_rise, taken_all, can_take_all}
use Rattle.desk_edit.proofs.Fitting.{Leads, leads, stays_untouched}

-- the rows without those that pass
without_passing : (p : Row → Bool) (xs : List Row) → without_rows (filter p xs) xs ≡ filter (λ x. not (p x)) xs
without_passing p xs =
    filter_alike (λ x. not (is_in (filter p xs) x)) (λ x. not (p x)) xs
    (λ x one. ap not (is_in-filter p x xs ∙ ap (λ b. b && p x) one))

-- where there are no more rows of a kind, no table is over its limit
pub fewer_still : (d d' : Desk) → good d ≡ true → ((kind : Kind) → count_of kind d' ≤ count_of kind d)
    → is_within_limits d' ≡ true
fewer_still d d' g less =
    let was = (good_parts d g).within in
    all_both (λ l. nat_le (count_of l.0 d) l.1) (λ l. nat_le (count_of l.0 d) l.1) (λ l. nat_le (count_of l.0 d') l.1)
    (λ l few few'. let n = at_most _ _ few in let k = less l.0 in most _ _ (omega (arith, n, k))) limits was was

-- ---- an edit that takes the members and the other rows that pass, and puts members

module _ (d : Desk) (p : MemberRow → Bool) (q : Row → Bool) (put : List Placed) (g : good d ≡ true) where
  abbrev sweep : EditOf
  sweep =
      record {
        taken = record { members = placed_from 0 p d.members; others = filter q d.others };
        put = record { members = put; others = [] };
        replaced = record { old = []; new = [] };
      }

  pub sweep_apt : places_rise put ≡ true → can_put put (filter (λ m. not (p m)) d.members) ≡ true → Apt d sweep
  sweep_apt rise can = record {
    take_rise = all_rise p d.members;
    take = can_take_all p d.members;
    put_rise = rise;
    put = ap (can_put put) (taken_all p d.members) ∙ can;
    outs_apart = and_from _ _ (and_from _ _ (in_order-filter q d.others (good_order d g)) refl) refl;
    outs_there = from_each (is_in d.others) (filter q d.others) (λ x one. (in_filter q d.others x one).0);
    ins_apart = refl;
    paired = refl;
  }

  pub sweep_is : (ms : List MemberRow) → put_at put (filter (λ m. not (p m)) d.members) ≡ ms
      → exchanged d sweep ≡ record d { members = ms; others = filter (λ x. not (q x)) d.others }
  unfolding exchanged
  sweep_is ms is = λ i.
      record d { members = (ap (put_at put) (taken_all p d.members) ∙ is) i; others = without_passing q d.others i }

  -- what stays did not pass
  pub sweep_stays : (t : Row → Bool) → ((m : MemberRow) → p m ≡ false → t (rows.Member m) ≡ true)
      → ((x : Row) → q x ≡ false → t x ≡ true) → list_all t (stay_rows d sweep) ≡ true
  sweep_stays t members others =
      two_alls rows.Member t (take_at (placed_from 0 p d.members) d.members) (without_rows (filter q d.others) d.others)
      ∙ and_from _ _ (ap (list_all (λ m. t (rows.Member m))) (taken_all p d.members)
      ∙ all_left p (λ m. t (rows.Member m)) members d.members)
      (ap (list_all t) (without_passing q d.others) ∙ all_left q t others d.others)

module _ (d : Desk) (key : Key) (g : good d ≡ true) where
  abbrev goes : Row → Bool
  goes = goes_with d key

  abbrev here : MemberRow → Bool
  here = λ m. goes (rows.Member m)

  abbrev e : EditOf
  e = takes_all d goes

  take_apt : Apt d e
  take_apt = sweep_apt d here goes [] g refl refl

  -- what is taken goes, and was there
  gone_go : list_all goes (go_rows e) ≡ true
  gone_go =
      two_alls (λ (s : Placed). rows.Member s.row) goes (placed_from 0 here d.members) (filter goes d.others)
      ∙ and_from _ _ (picked here here 0 d.members (λ m one own. own)) (all_pass goes d.others)

  gone_held : (x : Row) → is_in (go_rows e) x ≡ true → holds d x ≡ true
  gone_held x one =
      let n = before_count (same_row x) d e (good_order d g) take_apt in
      let some = some_count (same_row x) (go_rows e) one in
      count_some (same_row x) (rows_of d) (omega (arith, n, some))

  -- what names a row that goes goes
  follows : (x w : Row) → Names x w → holds d w ≡ true → goes w ≡ true → goes x ≡ true
  follows x w named held own = elim (only_dependent 3 d key w own) [
    | inl its ↦ dependent_goes d key x (w, held, its, Depends.direct x w named)
    | inr more ↦ dependent_goes d key x (more.0, more.1, more.2, Depends.through x w more.0 named held more.3)
  ]

  untaken : (x : Row) → goes x ≡ false → list_any (takes e) (names x) ≡ false
  untaken x stays = false_from_ne_true _ (λ h.
      let k = key_some (takes e) (names x) h in
      let w = witness (has_key k.0) (go_rows e) k.1 in
      true_false (sym
      (follows x w.0 (k.2 (λ j. has_key j w.0) w.2) (gone_held w.0 w.1) (at_each goes (go_rows e) w.0 gone_go w.1))
      ∙ stays))

  stays : (x : Row) → not (goes x) ≡ true → stays_sound false d e x ≡ true
  stays x own = stays_untouched d e x (none_all (takes e) (names x) (untaken x (not-true (goes x) own))) (quiet x) where
    quiet : (x : Row) → gains_audio d e x ≡ false
    quiet (rows.Room r) = refl
    quiet x = refl

  pub take_leads : Leads d e (without d key)
  take_leads = leads d e (without d key) g record {
    apt = take_apt;
    plain = refl;
    within =
        fewer_still d (exchanged d e) g (λ kind.
        (let before = before_count (is_of kind) d e (good_order d g) take_apt in
        let later = after_count (is_of kind) d e take_apt in omega (arith, before, later)));
    come = refl;
    stay =
        from_each (stays_sound false d e) (stay_rows d e) (λ x one.
        stays x (at_each (λ x. not (goes x)) (stay_rows d e) x
        (sweep_stays d here goes [] g (λ x. not (goes x)) (λ m. ap not) (λ x. ap not)) one));
  } (sweep_is d here goes [] g _ refl)
