-- The edits that put a row lead to the desk with the row.
use Rattle.std.specs.Prelude.{◌≡◌, ◌||◌, ◌∷◌}
use Rattle.desk_edit.proofs.Words.{nat_eq, true, false, not, [], filter, length, Option, Some, None, refl, sym, ap, ◌∙◌}
use Rattle.desk_edit.proofs.Words.{arith, or-false, and_from, or_left, insert_end, Row, MemberRow, Key, rank, kind_of}
use Rattle.desk_edit.proofs.Words.{key_of, has_key, same_row, is_of, is_in, with_row, without_rows, Desk, good, rows_of}
use Rattle.desk_edit.proofs.Words.{row_at, finds, is_elsewhere, its_key, same_row_is, row_itself, both_ways, from_each}
use Rattle.desk_edit.proofs.Words.{filter_all, true_false, found_nothing, found_one, found_there, keyed_good}
use Rattle.desk_edit.proofs.Words.{among_others, with_put, first_case, put_cases, found_list, puts_other, puts_member}
use Rattle.desk_edit.proofs.Words.{replaces, puts_in_place}
use Rattle.desk_rows.specs.declared.row.Row.TheVariants as rows
use Rattle.desk_rows.specs.declared.key.Key.TheVariants as keys
use Rattle.desk_rows.specs.declared.key.Kind.TheVariants as kinds
use Rattle.desk_rows.specs.Exchange.{exchanged}
use Rattle.desk_edit.specs.inner.Edits.{puts as puts_row}
use Rattle.desk_edit.proofs.Lists.{most, filter_alike, other_in}
use Rattle.desk_edit.proofs.Asked.{Free, free_row}
use Rattle.desk_edit.proofs.Fitting.{Leads, leads}
use Rattle.desk_edit.proofs.Putting.{Puts, put_carries}

-- without the row of a key, if there is one
without_found : (d : Desk) → good d ≡ true → (k : Key)
    → without_rows (found_list (row_at d k)) d.others ≡ filter (λ x. not (has_key k x)) d.others
without_found d g k =
    filter_alike (λ x. not (is_in (found_list (row_at d k)) x)) (λ x. not (has_key k x)) d.others (λ x one.
    ap not (both_ways _ _ (found (row_at d k) refl x) (λ own.
    let at = found_one (has_key k) (rows_of d) x ((keyed_good d g).once k) (other_in d x one) own in
    ap (λ o. is_in (found_list o) x) at ∙ or_left _ _ (row_itself x)))) where
      found : (o : Option Row) → row_at d k ≡ o → (x : Row) → is_in (found_list o) x ≡ true → has_key k x ≡ true
      found None at x h = absurd (true_false (sym h))
      found (Some old) at x h =
          ap (has_key k) (same_row_is x old (sym (or-false (same_row x old)) ∙ h))
          ∙ (found_there (has_key k) (rows_of d) old at).1

put_other : (d : Desk) (r : Row) → good d ≡ true → first_case (put_cases d r) ≡ None → is_of kinds.Member r ≡ false
    → (old : Option Row) → row_at d (key_of r) ≡ old →
    Leads d (puts_in_place old r) (record d { others = with_row r (filter (λ x. not (has_key (key_of r) x)) d.others) })
unfolding exchanged
put_other d r g h other None at =
    leads d (puts_other r) _ g (put_carries d (puts_other r) r g puts (free_row d r h))
    (λ i. record d { others = with_row r (is i) }) where
      is : without_rows [] d.others ≡ filter (λ x. not (has_key (key_of r) x)) d.others
      is = ap (λ o. without_rows (found_list o) d.others) (sym at) ∙ without_found d g (key_of r)

      puts : Puts d (puts_other r) r
      puts = record {
        apt =
            record {
              take_rise = refl;
              take = refl;
              put_rise = refl;
              put = refl;
              outs_apart = refl;
              outs_there = refl;
              ins_apart = refl;
              paired = refl;
            };
        comes = refl;
        goes = ap found_list (sym at);
        plain = and_from _ _ (ap not other) refl;
        still = refl;
      }
put_other d r g h other (Some old) at =
    leads d (replaces old r) _ g (put_carries d (replaces old r) r g puts (free_row d r h))
    (λ i. record d { others = with_row r (is i) }) where
      is : without_rows (old ∷ []) d.others ≡ filter (λ x. not (has_key (key_of r) x)) d.others
      is = ap (λ o. without_rows (found_list o) d.others) (sym at) ∙ without_found d g (key_of r)

      was : (is_in (rows_of d) old ≡ true) × (has_key (key_of r) old ≡ true)
      was = found_there (has_key (key_of r)) (rows_of d) old at

      there : is_in d.others old ≡ true
      there =
          among_others d old
          (ap (λ k. nat_eq (rank (kind_of k)) (rank kinds.Member)) (its_key (key_of r) old was.1) ∙ other) was.0

      puts : Puts d (replaces old r) r
      puts = record {
        apt =
            record {
              take_rise = refl;
              take = refl;
              put_rise = refl;
              put = refl;
              outs_apart = refl;
              outs_there = and_from _ _ there refl;
              ins_apart = refl;
              paired = and_from _ _ was.1 refl;
            };
        comes = refl;
        goes = ap found_list (sym at);
        plain = and_from _ _ (ap not other) refl;
        still = refl;
      }

put_member : (d : Desk) (m : MemberRow) → good d ≡ true → first_case (put_cases d (rows.Member m)) ≡ None
    → Leads d (puts_member (length d.members) m) (with_put d (rows.Member m))
unfolding exchanged
put_member d m g h =
    leads d (puts_member (length d.members) m) _ g
    (put_carries d (puts_member (length d.members) m) (rows.Member m) g puts f)
    (λ i. record d { members = insert_end d.members m i; others = is i }) where
      f : Free d (rows.Member m)
      f = free_row d (rows.Member m) h

      at : row_at d (keys.Member m.member) ≡ None
      at = found_nothing (has_key (keys.Member m.member)) (rows_of d) f.there

      is : without_rows [] d.others ≡ d.others
      is = filter_all (λ x. true) d.others (from_each (λ x. true) d.others (λ x one. refl))

      puts : Puts d (puts_member (length d.members) m) (rows.Member m)
      puts = record {
        apt =
            record {
              take_rise = refl;
              take = refl;
              put_rise = refl;
              put = and_from _ _ (most (length d.members) (length d.members) (omega arith)) refl;
              outs_apart = refl;
              outs_there = refl;
              ins_apart = refl;
              paired = refl;
            };
        comes = refl;
        goes = ap found_list (sym at);
        plain = refl;
        still = ap (λ o. finds (is_elsewhere m.room) o || false) at;
      }

pub put_leads : (d : Desk) (r : Row) → good d ≡ true → first_case (put_cases d r) ≡ None
    → Leads d (puts_row d r) (with_put d r)
put_leads d (rows.Member m) g h = put_member d m g h
put_leads d r g h = put_other d r g h refl _ refl
