-- What absorbing an edit that fits finds and leaves.
use Rattle.std.specs.Prelude.{◌≡◌, ◌≤◌, ◌+◌, ◌&&◌}
use Rattle.desk_rows.specs.laws.Words.{ℕ, Bool, true, length, sym, arith, nat_eq, filter, and_parts, list_all}
use Rattle.desk_rows.specs.laws.Words.{count_by, Row, Desk, good, EditOf, outs, ins, exchanged, is_apt, fits, after}
use Rattle.desk_rows.specs.laws.Words.{is_of, member_limit, slot_limit, other_limit, is_in, with_rows, in_order}
use Rattle.desk_rows.specs.laws.Words.{without_rows, key_is_new, are_apart, have_same_keys, take_at, can_take, can_put}
use Rattle.desk_rows.specs.laws.Words.{put_at, HasOrders}
use Rattle.desk_rows.specs.declared.key.Kind.TheVariants as kinds
use Rattle.desk_rows.specs.laws.Laws.{apt_parts, apt_from, good_order, fits_parts, after_fits}
use Rattle.desk_rows.specs.laws.OrderLaws.{count_by-with_rows}
use Rattle.desk_rows.specs.laws.PlaceLaws.{length-put_at}
use Rattle.desk_rows.proofs.Counts.{others_after}
use Rattle.desk_rows.proofs.ExchangeLemmas.{few_rows, few_slots}
use Rattle.desk_rows.proofs.Indexed.{once_each}

-- the lists of an apt edit are in order
pub orders_of : (d : Desk) (e : EditOf) → is_apt d e ≡ true → HasOrders e
orders_of d e h =
    let a = apt_parts d e h in
    let outs =
    and_parts (in_order e.taken.others && in_order e.replaced.old)
    (list_all (λ y. key_is_new y e.taken.others) e.replaced.old) a.outs_apart in
    let ins =
    and_parts (in_order e.put.others && in_order e.replaced.new)
    (list_all (λ y. key_is_new y e.put.others) e.replaced.new) a.ins_apart in
    let goes = and_parts (in_order e.taken.others) (in_order e.replaced.old) outs.0 in
    let comes = and_parts (in_order e.put.others) (in_order e.replaced.new) ins.0 in
    record { taken = goes.0; old = goes.1; put = comes.0; new = comes.1 }

pub others_balance : (p : Row → Bool) (d : Desk) (e : EditOf) → good d ≡ true → is_apt d e ≡ true →
    count_by p d.others + (count_by p e.put.others + count_by p e.replaced.new)
    ≡ count_by p (exchanged d e).others + (count_by p e.taken.others + count_by p e.replaced.old)
others_balance p d e g h =
    let n = others_after p d e (good_order d g) (apt_parts d e h) in
    let out = count_by-with_rows p e.replaced.old e.taken.others in
    let come = count_by-with_rows p e.replaced.new e.put.others in
    omega (arith, n.0, n.1, out, come)

-- no more go than there are
pub others_go : (p : Row → Bool) (d : Desk) (e : EditOf) → good d ≡ true → is_apt d e ≡ true
    → count_by p e.taken.others + count_by p e.replaced.old ≤ count_by p d.others
others_go p d e g h =
    let n = others_after p d e (good_order d g) (apt_parts d e h) in
    omega (arith, n.0, count_by-with_rows p e.replaced.old e.taken.others)

-- what absorbing an edit that fits finds and leaves
pub record Absorbs (d : Desk) (e : EditOf) : Type 0 where
  pub take : can_take e.taken.members d.members ≡ true
  pub put : can_put e.put.members (take_at e.taken.members d.members) ≡ true
  pub numbers : (n : ℕ)
      → count_by (λ m. nat_eq m.member n) (put_at e.put.members (take_at e.taken.members d.members)) ≤ 1
  pub members_few : length (take_at e.taken.members d.members) + length e.put.members ≤ member_limit
  pub orders : HasOrders e
  pub there : list_all (is_in d.others) (outs e) ≡ true
  pub paired : have_same_keys e.replaced.old e.replaced.new ≡ true
  pub apart : are_apart e.put.others e.replaced.new ≡ true
  pub others_few : length (with_rows (ins e) (without_rows (outs e) d.others)) ≤ other_limit
  pub subs_few : length (filter (is_of kinds.Sub) (with_rows (ins e) (without_rows (outs e) d.others))) ≤ slot_limit
  pub slots_few : length (filter (is_of kinds.Slot) (with_rows (ins e) (without_rows (outs e) d.others))) ≤ slot_limit
  pub go : (p : Row → Bool) → count_by p e.taken.others + count_by p e.replaced.old ≤ count_by p d.others
  pub balance : (p : Row → Bool)
      → count_by p d.others + (count_by p e.put.others + count_by p e.replaced.new)
      ≡ count_by p (with_rows (ins e) (without_rows (outs e) d.others))
      + (count_by p e.taken.others + count_by p e.replaced.old)
  pub good_after : good (exchanged d e) ≡ true
  pub after_is : exchanged d e ≡ after d e

pub absorbs : (d : Desk) (e : EditOf) → fits d e ≡ true → Absorbs d e
unfolding exchanged
absorbs d e h =
    let f = fits_parts d e h in
    let few = few_rows (exchanged d e) f.later in
    let slots = few_slots (exchanged d e) f.later in
    record {
      take = f.apt.take;
      put = f.apt.put;
      numbers = once_each (exchanged d e) f.later;
      members_few =
          (let l = length-put_at e.put.members (take_at e.taken.members d.members) f.apt.put in
          omega (arith, few.0, l));
      orders = orders_of d e (apt_from d e f.apt);
      there = f.apt.outs_there;
      paired = f.apt.paired;
      apart = f.apt.ins_apart;
      others_few = few.1;
      subs_few = slots.0;
      slots_few = slots.1;
      go = λ p. others_go p d e f.before (apt_from d e f.apt);
      balance = λ p. others_balance p d e f.before (apt_from d e f.apt);
      good_after = f.later;
      after_is = sym (after_fits d e h);
    }
