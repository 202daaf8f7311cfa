use Rattle.desk_rows.specs.laws.Words.{ℕ, [], Option, refl, arith, Row, slot_in, sub_in, IsTableOf, IsIndex}
use Rattle.desk_rows.specs.laws.Words.{IsByAddress, IsByRoom}
use Rattle.desk_rows.proofs.ExchangeLemmas.{good_blank}
use Rattle.desk_rows.proofs.rows.Rows.new.Goals as goal

empty_index : IsIndex [] []
empty_index = record { sorted = λ i j d le lt. absurd (omega arith); places = λ n. refl }

empty_table : {X : Type 0} (in_row : Row → Option X) (group turn : X → ℕ) → IsTableOf in_row group turn [] []
empty_table in_row group turn = record { order = refl; same = λ p. refl }

empty_by_address : IsByAddress [] []
empty_by_address = record { order = λ k d le lt. absurd (omega arith); same = λ p. refl }

empty_by_room : IsByRoom [] []
empty_by_room = record { order = refl; same = λ p. refl }

pub invariant_of-result : goal.invariant_of-result
invariant_of-result g c =
    rw (
      c.in_ok-with_capacity.ensures.items,
      c.in_ok-with_capacity-2.ensures.items,
      c.in_ok-with_capacity-3.ensures.items,
      c.in_ok-with_capacity-5.ensures.items,
      c.in_ok-with_capacity-6.ensures.items,
      c.in_ok-with_capacity-7.ensures.items,
      c.in_ok-with_capacity-8.ensures.items,
    ) (
      good_blank c.args.bridge_ssrc,
      empty_index,
      c.in_ok-with_capacity.ensures.capacity,
      c.in_ok-with_capacity-2.ensures.capacity,
      c.in_ok-with_capacity-3.ensures.capacity,
      c.in_ok-with_capacity-4.ensures.capacity,
      empty_table sub_in (λ s. s.source) (λ s. s.out_ssrc),
      c.in_ok-with_capacity-5.ensures.capacity,
      empty_table slot_in (λ s. s.member) (λ s. s.index),
      c.in_ok-with_capacity-6.ensures.capacity,
      empty_by_address,
      c.in_ok-with_capacity-7.ensures.capacity,
      empty_by_room,
      c.in_ok-with_capacity-8.ensures.capacity,
    )

pub returns-clause-good : goal.returns-clause-good
returns-clause-good g c =
    rw (c.in_ok-with_capacity.ensures.items, c.in_ok-with_capacity-3.ensures.items) (good_blank c.args.bridge_ssrc)
