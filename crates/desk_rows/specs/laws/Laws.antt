-- An edit that fits can be taken back.
pub use Rattle.desk_rows.specs.laws.ListLaws.{count_by-append}
use Rattle.std.specs.Prelude.{◌≡◌, ◌≤◌, ◌||◌, ◌++◌, ◌&&◌}
use Rattle.desk_rows.specs.laws.Words.{Bool, true, false, List, sym, ap, ◌∙◌, arith, map, nat_eq, not, inl, inr}
use Rattle.desk_rows.specs.laws.Words.{eqb-true, or_left, or_right, and_parts, and_from, cases_Bool, cond-true}
use Rattle.desk_rows.specs.laws.Words.{cond-false, true_from_ne_false, not-true, list_any-append, list_all, count_by}
use Rattle.desk_rows.specs.laws.Words.{Row, Member, Desk, rows_of, is_named_there, is_alone, is_within_limits, obeys}
use Rattle.desk_rows.specs.laws.Words.{is_listed, good, EditOf, outs, ins, inverse, exchanged, is_apt, fits, after}
use Rattle.desk_rows.specs.laws.Words.{is_in, with_rows, in_order, without_rows, are_apart, have_same_keys, take_at}
use Rattle.desk_rows.specs.laws.Words.{can_take, can_put, places_rise, put_at, same_row, has_key, key_of}
use Rattle.desk_rows.specs.laws.Equal.{key_itself}
use Rattle.desk_rows.specs.laws.ListLaws.{true_false, some_count, none_pass}
use Rattle.desk_rows.specs.laws.OrderLaws.{at_each, from_each, apart_in_order, same_keys_turned, count_by-with_rows}
use Rattle.desk_rows.specs.laws.OrderLaws.{is_in-with_rows, without_rows-with_rows, with_rows-without_rows}
use Rattle.desk_rows.specs.laws.PlaceLaws.{put_at-take_at, take_at-put_at, can_take-put_at, can_put-take_at}

-- ---- the parts of the tests

pub record Apt (d : Desk) (e : EditOf) : Type 0 where
  pub take_rise : places_rise e.taken.members ≡ true
  pub take : can_take e.taken.members d.members ≡ true
  pub put_rise : places_rise e.put.members ≡ true
  pub put : can_put e.put.members (take_at e.taken.members d.members) ≡ true
  pub outs_apart : are_apart e.taken.others e.replaced.old ≡ true
  pub outs_there : list_all (is_in d.others) (outs e) ≡ true
  pub ins_apart : are_apart e.put.others e.replaced.new ≡ true
  pub paired : have_same_keys e.replaced.old e.replaced.new ≡ true

pub outs_order : {d : Desk} {e : EditOf} → Apt d e → in_order (outs e) ≡ true
outs_order {d} {e} a = apart_in_order e.taken.others e.replaced.old a.outs_apart

pub ins_order : {d : Desk} {e : EditOf} → Apt d e → in_order (ins e) ≡ true
ins_order {d} {e} a = apart_in_order e.put.others e.replaced.new a.ins_apart

pub apt_parts : (d : Desk) (e : EditOf) → is_apt d e ≡ true → Apt d e
unfolding is_apt
apt_parts d e h =
    let takes = places_rise e.taken.members && can_take e.taken.members d.members in
    let puts = places_rise e.put.members && can_put e.put.members (take_at e.taken.members d.members) in
    let goes = are_apart e.taken.others e.replaced.old && list_all (is_in d.others) (outs e) in
    let comes = are_apart e.put.others e.replaced.new && have_same_keys e.replaced.old e.replaced.new in
    let both = and_parts (takes && puts) (goes && comes) h in
    let lists = and_parts takes puts both.0 in
    let one = and_parts (places_rise e.taken.members) (can_take e.taken.members d.members) lists.0 in
    let two =
    and_parts (places_rise e.put.members) (can_put e.put.members (take_at e.taken.members d.members)) lists.1 in
    let rows = and_parts goes comes both.1 in
    let three = and_parts (are_apart e.taken.others e.replaced.old) (list_all (is_in d.others) (outs e)) rows.0 in
    let four =
    and_parts (are_apart e.put.others e.replaced.new) (have_same_keys e.replaced.old e.replaced.new) rows.1 in
    record {
      take_rise = one.0;
      take = one.1;
      put_rise = two.0;
      put = two.1;
      outs_apart = three.0;
      outs_there = three.1;
      ins_apart = four.0;
      paired = four.1;
    }

pub apt_from : (d : Desk) (e : EditOf) → Apt d e → is_apt d e ≡ true
unfolding is_apt
apt_from d e a =
    and_from _ _ (and_from _ _ (and_from _ _ a.take_rise a.take) (and_from _ _ a.put_rise a.put))
    (and_from _ _ (and_from _ _ a.outs_apart a.outs_there) (and_from _ _ a.ins_apart a.paired))

pub record Good (d : Desk) : Type 0 where
  pub listed : is_listed d ≡ true
  pub within : is_within_limits d ≡ true
  pub named : list_all (is_named_there d) (rows_of d) ≡ true
  pub alone : list_all (is_alone d) (rows_of d) ≡ true
  pub obey : list_all (obeys d) (rows_of d) ≡ true

pub good_parts : (d : Desk) → good d ≡ true → Good d
unfolding good
good_parts d h =
    let both =
    and_parts (is_listed d && is_within_limits d)
    (list_all (is_named_there d) (rows_of d) && (list_all (is_alone d) (rows_of d) && list_all (obeys d) (rows_of d)))
    h in
    let front = and_parts (is_listed d) (is_within_limits d) both.0 in
    let back =
    and_parts (list_all (is_named_there d) (rows_of d))
    (list_all (is_alone d) (rows_of d) && list_all (obeys d) (rows_of d)) both.1 in
    let last = and_parts (list_all (is_alone d) (rows_of d)) (list_all (obeys d) (rows_of d)) back.1 in
    record { listed = front.0; within = front.1; named = back.0; alone = last.0; obey = last.1 }

pub good_from : (d : Desk) → Good d → good d ≡ true
unfolding good
good_from d g = and_from _ _ (and_from _ _ g.listed g.within) (and_from _ _ g.named (and_from _ _ g.alone g.obey))

pub good_order : (d : Desk) → good d ≡ true → in_order d.others ≡ true
good_order d h = (and_parts (in_order d.others) _ (good_parts d h).listed).0

pub record Fits (d : Desk) (e : EditOf) : Type 0 where
  pub before : good d ≡ true
  pub apt : Apt d e
  pub later : good (exchanged d e) ≡ true

pub fits_parts : (d : Desk) (e : EditOf) → fits d e ≡ true → Fits d e
unfolding fits
fits_parts d e h =
    let both = and_parts (good d) (is_apt d e && good (exchanged d e)) h in
    let rest = and_parts (is_apt d e) (good (exchanged d e)) both.1 in
    record { before = both.0; apt = apt_parts d e rest.0; later = rest.1 }

pub fits_from : (d : Desk) (e : EditOf) → Fits d e → fits d e ≡ true
unfolding fits
fits_from d e f = and_from _ _ f.before (and_from _ _ (apt_from d e f.apt) f.later)

-- ---- no row comes twice

pub any_counts : (p : Row → Bool) (rs : List Row) (q : Row) → is_in rs q ≡ true → p q ≡ true → 1 ≤ count_by p rs
any_counts p rs q one h =
    some_count p rs (true_from_ne_false _
    (λ e. true_false (sym h ∙ not-true (p q) (at_each (λ r. not (p r)) rs q (none_pass p rs e) one))))

pub is_in-append : (rs ts : List Row) (q : Row) → is_in (rs ++ ts) q ≡ (is_in rs q || is_in ts q)
is_in-append rs ts q = list_any-append (same_row q) rs ts

-- each row claims its key
pub claims_key : (d : Desk) (r : Row) → is_alone d r ≡ true
    → nat_eq (count_by (has_key (key_of r)) (rows_of d)) 1 ≡ true
claims_key d r h = (and_parts _ _ (and_parts _ _ h).0).0

pub one_key : (d : Desk) (r : Row) → good d ≡ true → is_in (rows_of d) r ≡ true
    → count_by (has_key (key_of r)) (rows_of d) ≡ 1
one_key d r h one = eqb-true _ _ (claims_key d r (at_each (is_alone d) (rows_of d) r (good_parts d h).alone one))

-- in a good desk no row that came was there before
pub none_was_there : (d : Desk) (e : EditOf) → good (exchanged d e) ≡ true
    → list_all (λ x. not (is_in (ins e) x)) (without_rows (outs e) d.others) ≡ true
unfolding exchanged
none_was_there d e h =
    let left = without_rows (outs e) d.others in
    from_each (λ x. not (is_in (ins e) x)) left (λ q one.
    elim (cases_Bool (is_in (ins e) q)) [
      | inl two ↦
          let k = key_of q in
          let d' = exchanged d e in
          let itself : has_key k q ≡ true = key_itself k in
          let there : is_in (rows_of d') q ≡ true =
          is_in-append (map Member d'.members) d'.others q
          ∙ or_right _ _ (is_in-with_rows (ins e) left q ∙ or_left _ _ two) in
          let once = one_key d' q h there in
          let all = count_by-append (has_key k) (map Member d'.members) d'.others in
          let parts = count_by-with_rows (has_key k) (ins e) left in
          let new = any_counts (has_key k) (ins e) q two itself in
          let old = any_counts (has_key k) left q one itself in
          absurd (omega (arith, once, all, parts, new, old))
      | inr two ↦ ap not two
    ])

-- ---- the laws

pub exchanged_back : (d : Desk) (e : EditOf) → Fits d e → exchanged (exchanged d e) (inverse e) ≡ d
unfolding exchanged
exchanged_back d e f =
    let a = f.apt in
    let left = without_rows (outs e) d.others in
    let members : put_at e.taken.members
    (take_at e.put.members (put_at e.put.members (take_at e.taken.members d.members)))
    ≡ d.members =
    ap (put_at e.taken.members) (take_at-put_at e.put.members (take_at e.taken.members d.members) a.put)
    ∙ put_at-take_at e.taken.members d.members a.take in
    let others : with_rows (ins (inverse e)) (without_rows (outs (inverse e)) (with_rows (ins e) left)) ≡ d.others =
    ap (with_rows (outs e)) (without_rows-with_rows (ins e) left (none_was_there d e f.later))
    ∙ with_rows-without_rows (outs e) d.others (good_order d f.before) (outs_order a) a.outs_there in
    λ i. record { bridge_ssrc = d.bridge_ssrc; members = members i; others = others i }

pub apt_back : (d : Desk) (e : EditOf) → Fits d e → Apt (exchanged d e) (inverse e)
unfolding exchanged
apt_back d e f =
    let a = f.apt in
    let left = without_rows (outs e) d.others in
    let rest = take_at-put_at e.put.members (take_at e.taken.members d.members) a.put in
    record {
      take_rise = a.put_rise;
      take = can_take-put_at e.put.members (take_at e.taken.members d.members) a.put;
      put_rise = a.take_rise;
      put = ap (can_put e.taken.members) rest ∙ can_put-take_at e.taken.members d.members a.take;
      outs_apart = a.ins_apart;
      outs_there =
          from_each (is_in (with_rows (ins e) left)) (ins e)
          (λ q one. is_in-with_rows (ins e) left q ∙ or_left _ _ one);
      ins_apart = a.outs_apart;
      paired = same_keys_turned e.replaced.old e.replaced.new a.paired;
    }

pub after_fits : (d : Desk) (e : EditOf) → fits d e ≡ true → after d e ≡ exchanged d e
unfolding after
after_fits d e h = cond-true (fits d e) _ _ h

pub stays : (d : Desk) (e : EditOf) → fits d e ≡ false → after d e ≡ d
unfolding after
stays d e h = cond-false (fits d e) _ _ h

pub inverse_fits : (d : Desk) (e : EditOf) → fits d e ≡ true → fits (after d e) (inverse e) ≡ true
inverse_fits d e h =
    let f = fits_parts d e h in
    ap (λ x. fits x (inverse e)) (after_fits d e h)
    ∙ fits_from (exchanged d e) (inverse e)
    record { before = f.later; apt = apt_back d e f; later = ap good (exchanged_back d e f) ∙ f.before }

pub undoes : (d : Desk) (e : EditOf) → fits d e ≡ true → after (after d e) (inverse e) ≡ d
undoes d e h =
    let f = fits_parts d e h in
    after_fits (after d e) (inverse e) (inverse_fits d e h)
    ∙ ap (λ x. exchanged x (inverse e)) (after_fits d e h)
    ∙ exchanged_back d e f

pub fits_test : (d : Desk) (e : EditOf) → good d ≡ true → fits d e ≡ (is_apt d e && good (exchanged d e))
unfolding fits
fits_test d e h = ap (λ b. b && (is_apt d e && good (exchanged d e))) h
