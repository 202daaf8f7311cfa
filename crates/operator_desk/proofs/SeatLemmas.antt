-- Seats that are handed in.
use Rattle.std.proofs.Common.{◌≡◌, ℕ, zero, suc, ◌+◌, ◌<◌, ◌≤◌, Bool, true, false, nat_eq, List, [], ◌∷◌, length, refl}
use Rattle.std.proofs.Common.{sym, ap, ◌∙◌, arith}
use Rattle.std.specs.Prelude.{◌||◌}
use Rattle.operator_desk.specs.Seats.{SeatOf}
use Rattle.operator_desk.specs.Gathering.{is_handed_in, AreAllIn}

-- the seats but for one of this operator
record Without (op : ℕ) (seats : List SeatOf) : Type 0 where
  rest : List SeatOf
  one : length rest + 1 ≡ length seats
  others : (other : ℕ) → nat_eq op other ≡ false → is_handed_in other rest ≡ is_handed_in other seats

without : (op : ℕ) (seats : List SeatOf) → is_handed_in op seats ≡ true → Without op seats
without op [] there = absurd (cc there)
without op (s ∷ seats) there = by (nat_eq s.op op) refl (λ later. without op seats later)
  where
    by : (b : Bool) → nat_eq s.op op ≡ b → (is_handed_in op seats ≡ true → Without op seats) → Without op (s ∷ seats)
    by true is more = record {
      rest = seats;
      one = omega arith;
      others = λ other apart.
          let own : s.op ≡ op = grind (arith, is) in
          let not_it : nat_eq s.op other ≡ false = ap (λ n. nat_eq n other) own ∙ apart in
          ap (λ b. b || is_handed_in other seats) (sym not_it);
    }
    by false is more =
        let later : is_handed_in op seats ≡ true = sym (ap (λ b. b || is_handed_in op seats) is) ∙ there in
        let w = more later in
        let one = w.one in
        record {
          rest = s ∷ w.rest;
          one = omega (arith, one);
          others = λ other apart. ap (λ b. nat_eq s.op other || b) (w.others other apart);
        }

less_is_other : (op k : ℕ) → op < k → nat_eq k op ≡ false
less_is_other op k less = grind (arith, less)

-- where so many operators have their seats among these, these are as many at least
pub enough : (count : ℕ) (seats : List SeatOf) → AreAllIn count seats → count ≤ length seats
enough zero seats all = omega arith
enough (suc count) seats all =
    let w = without count seats (all count (omega arith)) in
    let rest = enough count w.rest (λ op less. w.others op (less_is_other op count less) ∙ all op (omega arith)) in
    let one = w.one in
    omega (arith, rest, one)
