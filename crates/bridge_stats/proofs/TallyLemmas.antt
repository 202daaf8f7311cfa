-- Sums by kind, after one more datagram.
use Rattle.std.proofs.Common.{◌≡◌, ℕ, ◌+◌, ◌-◌, ◌^◌, ◌<◌, min, nat_eq, cond, Bool, true, false, List, [], ◌∷◌, ◌++◌}
use Rattle.std.proofs.Common.{length, get_or, refl, sym, ap, ◌∙◌, subst, arith, inl, inr}
use Rattle.std.specs.Prelude.{sum_by}
use Rattle.std.proofs.lemmas.List.{length-set, get_or-set_same, get_or-set_other}
use Rattle.std.proofs.lemmas.List.Sums.{sum_by_push}
use Rattle.std.proofs.lemmas.Bool.{cases_eq, eq-eqb, ne_eqb}
use Rattle.std.proofs.Math.ListN.{set}
use Rattle.bridge_stats.specs.declared.taken.TakenIn.{TakenIn}
use Rattle.ingress.specs.Outcomes.{outcome_kind}
use Rattle.bridge_stats.specs.Kinds.{kinds, line_place}
use Rattle.bridge_stats.specs.Counts.{so_many}
use Rattle.bridge_stats.specs.inner.Tallies.{AreSums, sum_at}

-- counted at once, or one after the other
pub counted_more : (sum more : ℕ) → so_many (so_many sum + more) ≡ so_many (sum + more)
counted_more sum more = omega arith

no_more : (n : ℕ) → n ≡ n + 0
no_more n = omega arith

-- what one more datagram adds at a place
pushed : (size : TakenIn → ℕ) (place : ℕ) (all : List TakenIn) (t : TakenIn) (b : Bool)
    → nat_eq (line_place (outcome_kind t.outcome)) place ≡ b
    → sum_at size place (all ++ t ∷ []) ≡ sum_at size place all + cond b (size t) 0
pushed size place all t b is =
    sum_by_push (λ (x : TakenIn). cond (nat_eq (line_place (outcome_kind x.outcome)) place) (size x) 0) all t
    ∙ ap (λ (c : Bool). sum_at size place all + cond c (size t) 0) is

pub sums_more : (size : TakenIn → ℕ) (sums : List ℕ) (all : List TakenIn) (t : TakenIn) (place value : ℕ)
    → place ≡ line_place (outcome_kind t.outcome) → place < kinds → value ≡ so_many (get_or sums place 0 + size t)
    → AreSums size sums all → AreSums size (set sums place value) (all ++ t ∷ [])
sums_more size sums all t place value at few is h = record {
  long = length-set sums place value ∙ h.long;
  each = λ q lt. elim (cases_eq place q) [
    | inl same ↦
        subst (λ (n : ℕ). get_or (set sums place value) n 0 ≡ so_many (sum_at size n (all ++ t ∷ []))) same here
    | inr other ↦
        get_or-set_other sums place q value 0 (λ e. other (sym e))
        ∙ (h.each q lt
        ∙ ap so_many (no_more (sum_at size q all)
        ∙ sym (pushed size q all t false (ap (λ (n : ℕ). nat_eq n q) (sym at) ∙ ne_eqb place q other))))
  ];
}
  where
    here : get_or (set sums place value) place 0 ≡ so_many (sum_at size place (all ++ t ∷ []))
    here =
        get_or-set_same sums place value 0 (let l = h.long in omega (arith, few, l))
        ∙ (is
        ∙ (ap (λ (n : ℕ). so_many (n + size t)) (h.each place few)
        ∙ (counted_more (sum_at size place all) (size t)
        ∙ ap so_many (sym (pushed size place all t true
        (ap (λ (n : ℕ). nat_eq n place) (sym at) ∙ eq-eqb place place refl))))))
