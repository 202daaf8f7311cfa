-- Lists without two elements of one key, and lists in groups.
use Rattle.std.proofs.Common.{◌≡◌, ℕ, Bool, true, false, cond, nat_eq, List, [], ◌∷◌, Option, None, Some, refl}
use Rattle.std.proofs.Common.{ap, ◌∙◌, arith}
use Rattle.std.specs.Prelude.{filter}
use Rattle.std.specs.List.{AllByRecursion, find, flat_map}
use Rattle.std.proofs.lemmas.Bool.Decides.{nat_tests}
use Rattle.desk_rows.specs.laws.Equal.{number_itself}

-- the element with this key
abbrev pub at : {X : Type 0} → (X → ℕ) → ℕ → List X → Option X
at key k xs = find (λ x. nat_eq (key x) k) xs

-- no two elements have one key
abbrev pub Distinct : {X : Type 0} → (X → ℕ) → List X → Type 0
Distinct key [] = Unit {0}
Distinct key (x ∷ xs) = (at key (key x) xs ≡ None) × Distinct key xs

pub past : {X : Type 0} (b : Bool) (x : X) (o : Option X) → cond b (Some x) o ≡ None → (b ≡ false) × (o ≡ None)
past true x o e = absurd (cc)
past false x o e = (refl, e)

pub from_past : {X : Type 0} (b : Bool) (x : X) (o : Option X) → b ≡ false → o ≡ None → cond b (Some x) o ≡ None
from_past b x o e h = ap (λ c. cond c (Some x) o) e ∙ h

pub turned : (m n : ℕ) → nat_eq m n ≡ false → nat_eq n m ≡ false
turned m n e = grind (arith, nat_tests)

-- each element of such a list is the one of its key
abbrev pub Found : {X : Type 0} → (X → ℕ) → List X → X → Type 0
Found key all x = at key (key x) all ≡ Some x

found_behind : {X : Type 0} (key : X → ℕ) (x : X) (all xs : List X) → at key (key x) xs ≡ None
    → AllByRecursion (Found key all) xs → AllByRecursion (Found key (x ∷ all)) xs
found_behind key x all [] h each = tt
found_behind key x all (y ∷ ys) h each =
    let p = past (nat_eq (key y) (key x)) y (at key (key x) ys) h in (
      ap (λ b. cond b (Some x) (at key (key y) all)) (turned (key y) (key x) p.0) ∙ each.0,
      found_behind key x all ys p.1 each.1,
    )

pub all_apart : {X : Type 0} (key : X → ℕ) (xs : List X) → Distinct key xs → AllByRecursion (Found key xs) xs
all_apart key [] apart = tt
all_apart key (x ∷ xs) apart = (
  ap (λ b. cond b (Some x) (at key (key x) xs)) (number_itself (key x)),
  found_behind key x xs xs apart.0 (all_apart key xs apart.1),
)

-- the elements in groups, one for each number of a list
abbrev pub groups : {X I : Type 0} → (X → ℕ) → (I → ℕ) → List X → List I → List X
groups tag num xs is = flat_map (λ i. filter (λ x. nat_eq (tag x) (num i)) xs) is
