-- Probation lasts while no number follows the one before it.
use Rattle.std.proofs.Common.{◌≡◌, ℕ, Bool, true, false, cond, nat_eq, List, [], ◌∷◌, refl, ap, ◌∙◌, arith}
use Rattle.std.specs.Prelude.{fold}
use Rattle.std.proofs.lemmas.Bool.Decides.{nat_tests}
use Rattle.std.proofs.lemmas.List.Sums.{fold-append}
use Rattle.source_valid.specs.Stretches.{begun, following}
use Rattle.source_valid.specs.Histories.{Standing, Waiting, Valid, after_number}
use Rattle.source_valid.specs.laws.Probations.{NoneFollows, last_of, Probations}

unequal : (m n : ℕ) → ¬ (m ≡ n) → nat_eq m n ≡ false
unequal m n h = grind (arith, nat_tests)

equal : (n : ℕ) → nat_eq n n ≡ true
equal n = grind (arith, nat_tests)

stays : (last n : ℕ) → ¬ (n ≡ following last) → after_number (Waiting last) n ≡ Waiting n
stays last n h = ap (λ (b : Bool). cond b (Valid (begun n)) (Waiting n)) (unequal n (following last) h)

ends : (last : ℕ) → after_number (Waiting last) (following last) ≡ Valid (begun (following last))
ends last =
    ap (λ (b : Bool). cond b (Valid (begun (following last))) (Waiting (following last))) (equal (following last))

waits : (last : ℕ) (ns : List ℕ) → NoneFollows last ns → fold after_number (Waiting last) ns ≡ Waiting (last_of last ns)
waits last [] h = refl
waits last (n ∷ ns) (h, t) = ap (λ (st : Standing). fold after_number st ns) (stays last n h) ∙ waits n ns t

pub probations : Probations
probations first ns h = (
  waits first ns h,
  fold-append after_number (Waiting first) ns (following (last_of first ns) ∷ [])
      ∙ ap (λ (st : Standing). after_number st (following (last_of first ns))) (waits first ns h)
      ∙ ends (last_of first ns),
)
