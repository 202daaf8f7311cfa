-- What a row claims it has alone.
use Rattle.std.specs.Prelude.{◌≡◌, ◌≤◌, ◌∷◌}
use Rattle.desk_rows.specs.laws.Words.{Bool, true, List, [], sym, ap, ◌∙◌, arith, nat_eq, inl, inr, eqb-true, or_left}
use Rattle.desk_rows.specs.laws.Words.{or_right, or_cases, and_parts, cases_Bool, list_any, list_all, count_by, Claim}
use Rattle.desk_rows.specs.laws.Words.{Row, Desk, rows_of, is_alone, is_made_once, is_in, makes, same_claim}
use Rattle.desk_rows.specs.laws.Words.{other_claims, claims_of}
use Rattle.desk_rows.specs.declared.claim.Claim.TheVariants as claims
use Rattle.desk_rows.specs.laws.Equal.{its_key, row_itself, same_claim_is}
use Rattle.desk_rows.specs.laws.ListLaws.{true_false, no_count}
use Rattle.desk_rows.specs.laws.OrderLaws.{at_each}

among : (f : Claim → Bool) (c : Claim) (cs : List Claim) → list_all f cs ≡ true → list_any (same_claim c) cs ≡ true
    → f c ≡ true
among f c [] all e = absurd (true_false (sym e))
among f c (b ∷ cs) all e = grind (arith, all, e, same_claim_is c b, among f c cs)

-- what holds of each claim of a row holds of any claim that it makes
pub claimed : (f : Claim → Bool) (c : Claim) (r : Row) → list_all f (claims_of r) ≡ true → makes c r ≡ true → f c ≡ true
claimed f (claims.Key k) r all e = ap (λ q. f (claims.Key q)) (sym (its_key k r e)) ∙ (and_parts _ _ all).0
claimed f c r all e = among f c (other_claims r) (and_parts _ _ all).1 e

-- a row that passes, where some do
pub witness : (p : Row → Bool) (rs : List Row) → list_any p rs ≡ true → (r : Row) × (is_in rs r ≡ true) × (p r ≡ true)
witness p [] h = absurd (true_false (sym h))
witness p (r ∷ rs) h =
    elim (or_cases (p r) (list_any p rs) h) [
      | inl e ↦ (r, or_left _ _ (row_itself r), e)
      | inr e ↦ let w = witness p rs e in (w.0, or_right _ _ w.1, w.2)
    ]

-- where each row has what it claims alone, a claim is made once at most
pub claimed_once : (d : Desk) (c : Claim) → list_all (is_alone d) (rows_of d) ≡ true
    → count_by (makes c) (rows_of d) ≤ 1
claimed_once d c alone =
    elim (cases_Bool (list_any (makes c) (rows_of d))) [
      | inl e ↦
          let w = witness (makes c) (rows_of d) e in
          let once = claimed (is_made_once d) c w.0 (at_each (is_alone d) (rows_of d) w.0 alone w.1) w.2 in
          let one : count_by (makes c) (rows_of d) ≡ 1 =
          eqb-true _ 1 (and_parts (nat_eq (count_by (makes c) (rows_of d)) 1) _ once).0 in
          omega (arith, one)
      | inr e ↦ omega (arith, no_count (makes c) (rows_of d) e)
    ]
