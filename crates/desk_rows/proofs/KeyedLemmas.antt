-- The rows of a desk in which a key finds one row at most are known by what keys find.
use Rattle.std.specs.Prelude.{◌≡◌, ◌≤◌, ◌||◌, ◌∷◌, ◌&&◌}
use Rattle.desk_rows.specs.laws.Words.{Bool, false, cond, List, [], Some, refl, sym, ap, ◌∙◌, arith, inl, inr}
use Rattle.desk_rows.specs.laws.Words.{and_parts, cases_Bool, find, list_any, count_by, Row, finds}
use Rattle.desk_rows.specs.laws.ListLaws.{or_turned, count_yes, count_no, more_pass, none_any}

-- of the rows of a key, of which there is one at most, one passes where the one that is found does
pub found_passes : (p q : Row → Bool) (rs : List Row) → count_by p rs ≤ 1
    → list_any (λ r. p r && q r) rs ≡ finds q (find p rs)
found_passes p q [] once = refl
found_passes p q (r ∷ rs) once =
    elim (cases_Bool (p r)) [
      | inl e ↦
          let fewer = more_pass (λ r. p r && q r) p (λ x h. (and_parts (p x) (q x) h).0) rs in
          let none = none_any (λ r. p r && q r) rs (omega (arith, once, count_yes p r rs e, fewer)) in
          (λ i. (e i && q r) || none i)
          ∙ or_turned (q r) false
          ∙ sym (ap (λ b. finds q (cond b (Some r) (find p rs))) e)
      | inr e ↦
          (λ i. (e i && q r) || found_passes p q rs (omega (arith, once, count_no p r rs e)) i)
          ∙ sym (ap (λ b. finds q (cond b (Some r) (find p rs))) e)
    ]
