-- The first element that passes a test.
use Rattle.std.proofs.lemmas.Bool.Decides.{nat_tests}
use Rattle.std.proofs.Common.{◌≡◌, ℕ, suc, ◌+◌, ◌<◌, Bool, true, false, not, nat_lt, nat_eq, cond, List, [], ◌∷◌}
use Rattle.std.proofs.Common.{length, get_or, Some, None, refl, sym, ap, ◌∙◌, subst, arith, rules}
use Rattle.std.specs.List.{prefix_len, position_or_len, position}
use Rattle.operator_desk.specs.Seats.{SeatOf}
use Rattle.operator_threads.specs.Free.{seat_at}

stops : {X : Type 0} (p : X → Bool) (xs : List X) (d : X) → prefix_len p xs < length xs
    → p (get_or xs (prefix_len p xs) d) ≡ false
stops p [] d less = absurd (omega (arith, less))
stops p (x ∷ xs) d less =
    elim (p x) as (λ (b : Bool).
    p x ≡ b → cond b (1 + prefix_len p xs) 0 < length (x ∷ xs)
    → p (get_or (x ∷ xs) (cond b (1 + prefix_len p xs) 0) d) ≡ false) [
      | true ↦ λ e few.
          let on : 1 + prefix_len p xs ≡ suc (prefix_len p xs) = omega arith in
          subst (λ (n : ℕ). p (get_or (x ∷ xs) n d) ≡ false) (sym on) (stops p xs d (omega (arith, few)))
      | false ↦ λ e few. e
    ] refl less

passes : (b : Bool) → not b ≡ false → b ≡ true
passes true e = refl
passes false e = sym e

inside : {X : Type 0} (a b : X) → Some a ≡ Some b → a ≡ b
inside a b e = search rules

pub at_place : {X : Type 0} (p : X → Bool) (xs : List X) (at : ℕ) (d : X) → position p xs ≡ Some at
    → p (get_or xs at d) ≡ true
at_place p xs at d e =
    elim (nat_lt (position_or_len p xs) (length xs)) as (λ (b : Bool).
    nat_lt (position_or_len p xs) (length xs) ≡ b → cond b (Some (position_or_len p xs)) None ≡ Some at
    → p (get_or xs at d) ≡ true) [
      | true ↦ λ lt same.
          let less : position_or_len p xs < length xs = (grind (arith, nat_tests)) in
          subst (λ (i : ℕ). p (get_or xs i d) ≡ true) (inside _ _ same) (passes _ (stops (λ x. not (p x)) xs d less))
      | false ↦ λ lt same. absurd (search rules)
    ] refl e

-- the seat at the operator's place is the operator's
pub seat_of : (op : ℕ) (seats : List SeatOf) (at : ℕ) (seat : SeatOf) → seat_at op seats ≡ Some at
    → seat ≡ get_or seats at seat → seat.op ≡ op
seat_of op seats at seat e is =
    let here : nat_eq (get_or seats at seat).op op ≡ true = at_place (λ (s : SeatOf). nat_eq s.op op) seats at seat e in
    let same : (get_or seats at seat).op ≡ op = (grind (arith, nat_tests)) in
    ap (λ (s : SeatOf). s.op) is ∙ same
