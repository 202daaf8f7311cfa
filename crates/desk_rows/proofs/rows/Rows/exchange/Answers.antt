use Rattle.std.specs.Prelude.{◌≡◌}
use Rattle.desk_rows.specs.laws.Words.{true, length, filter, ap, subst, ◌∙◌, arith, count_by, is_of, in_order, slot_in}
use Rattle.desk_rows.specs.laws.Words.{sub_in, passes_in, IsTableOf, Desk, good, EditOf, exchanged, fits, after}
use Rattle.desk_rows.specs.laws.Words.{desk_of}
use Rattle.desk_rows.specs.declared.key.Kind.TheVariants as kinds
use Rattle.desk_rows.specs.laws.Laws.{good_order}
use Rattle.desk_rows.proofs.ExchangeLemmas.{few_rows}
use Rattle.desk_rows.proofs.AbsorbLemmas.{Absorbs, absorbs}
use Rattle.desk_rows.proofs.rows.Rows.exchange.Goals as goal

-- the same of a desk that is the one given
at : (d given : Desk) (e : EditOf) → d ≡ given → fits given e ≡ true → Absorbs d e
at d given e same fit = absorbs d e (ap (λ x. fits x e) same ∙ fit)

pub exchange_members-requires : goal.exchange_members-requires
exchange_members-requires g c =
    let own = c.self.invariant in
    let found = at _ _ c.args.edit.now c.self.view_is c.requires in
    record {
      index = own.1;
      addresses = own.10;
      rooms = own.12;
      take = found.take;
      put = found.put;
      numbers = found.numbers;
      few = found.members_few;
      capacity = (own.2, own.3, own.11, own.13);
    }

pub exchange_rows-requires : goal.exchange_rows-requires
unfolding exchanged
exchange_rows-requires g c =
    let own = c.self.invariant in
    let found = at _ _ c.args.edit.now c.self.view_is c.requires in
    record {
      rows = good_order _ own.0;
      fit = (few_rows _ own.0).1;
      orders = found.orders;
      there = found.there;
      paired = found.paired;
      apart = found.apart;
      later = good_order _ found.good_after;
      few = found.others_few;
      capacity = (own.4, own.5);
    }

pub follow-requires : goal.follow-requires
unfolding exchanged
follow-requires g c =
    let own = c.self.invariant in
    let found = at _ _ c.args.edit.now c.self.view_is c.requires in
    let now = c.deref.ensures.value ∙ c.exchange_rows.ensures.items in
    record {
      order = own.6.order;
      rows = ap in_order now ∙ good_order _ found.good_after;
      orders = found.orders;
      there = λ p. omega (arith, own.6.same p, found.go (passes_in sub_in p));
      before = λ p.
          omega (arith, own.6.same p, ap (count_by (passes_in sub_in p)) now, found.balance (passes_in sub_in p));
      capacity = omega (arith, ap (λ rows. length (filter (is_of kinds.Sub) rows)) now, found.subs_few, own.7);
    }

pub follow-requires-2 : goal.follow-requires-2
unfolding exchanged
follow-requires-2 g c =
    let own = c.self.invariant in
    let found = at _ _ c.args.edit.now c.self.view_is c.requires in
    let now = c.deref-2.ensures.value ∙ c.exchange_rows.ensures.items in
    record {
      order = own.8.order;
      rows = ap in_order now ∙ good_order _ found.good_after;
      orders = found.orders;
      there = λ p. omega (arith, own.8.same p, found.go (passes_in slot_in p));
      before = λ p.
          omega (arith, own.8.same p, ap (count_by (passes_in slot_in p)) now, found.balance (passes_in slot_in p));
      capacity = omega (arith, ap (λ rows. length (filter (is_of kinds.Slot) rows)) now, found.slots_few, own.9);
    }

pub invariant_of-self : goal.invariant_of-self
unfolding exchanged
invariant_of-self g c =
    let found = at _ _ c.args.edit.now c.self.view_is c.requires in (
      (λ i.
          good
          (desk_of c.self.inside.bridge_ssrc (c.exchange_members.ensures.items i) (c.exchange_rows.ensures.items i)))
          ∙ found.good_after,
      c.exchange_members.ensures.index,
      c.exchange_members.ensures.capacity.0,
      c.exchange_members.ensures.capacity.1,
      c.exchange_rows.ensures.capacity.0,
      c.exchange_rows.ensures.capacity.1,
      subst (λ others. IsTableOf sub_in (λ s. s.source) (λ s. s.out_ssrc) others c.follow.new.table.items)
          c.deref.ensures.value c.follow.ensures.table,
      omega (arith, c.follow.ensures.capacity, c.self.invariant.7),
      subst (λ others. IsTableOf slot_in (λ s. s.member) (λ s. s.index) others c.follow-2.new.table.items)
          c.deref-2.ensures.value c.follow-2.ensures.table,
      omega (arith, c.follow-2.ensures.capacity, c.self.invariant.9),
      c.exchange_members.ensures.addresses,
      c.exchange_members.ensures.capacity.2,
      c.exchange_members.ensures.rooms,
      c.exchange_members.ensures.capacity.3,
    )

pub returns : goal.returns
unfolding exchanged
returns g c =
    let found = at _ _ c.args.edit.now c.self.view_is c.requires in
    (λ i. desk_of c.self.inside.bridge_ssrc (c.exchange_members.ensures.items i) (c.exchange_rows.ensures.items i))
    ∙ found.after_is ∙ ap (λ d. after d c.args.edit.now) c.self.view_is
