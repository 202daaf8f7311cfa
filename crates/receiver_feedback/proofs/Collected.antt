-- Numbers collected one by one are each number at its first place.
use Rattle.std.proofs.Common.{◌≡◌, ℕ, Bool, true, false, ◌&&◌, ◌||◌, not, nat_eq, List, [], ◌∷◌, ◌++◌, fold, filter}
use Rattle.std.proofs.Common.{cond, refl, ap, sym, ◌∙◌, append_assoc, inl, inr, arith}
use Rattle.std.proofs.lemmas.List.{append-nil}
use Rattle.std.proofs.lemmas.List.Folds.{list_any-append}
use Rattle.std.proofs.lemmas.Bool.{cases_eq}
use Rattle.std.proofs.lemmas.Bool.Decides.{nat_tests}
use Rattle.receiver_feedback.specs.Resends.{firsts}
use Rattle.receiver_feedback.specs.inner.Seen.{has, added}

-- one filter for two
pub filter-both : (p q r : ℕ → Bool) → ((x : ℕ) → r x ≡ (q x && p x)) → (xs : List ℕ)
    → filter r xs ≡ filter p (filter q xs)
filter-both p q r h [] = refl
filter-both p q r h (x ∷ xs) =
    ap (λ b. cond b (x ∷ filter r xs) (filter r xs)) (h x) ∙ by (q x) (filter-both p q r h xs)
  where
    by : (b : Bool) → filter r xs ≡ filter p (filter q xs)
        → cond (b && p x) (x ∷ filter r xs) (filter r xs) ≡ filter p (cond b (x ∷ filter q xs) (filter q xs))
    by true e = ap (λ (ys : List ℕ). cond (p x) (x ∷ ys) ys) e
    by false e = e

neither : (a b : Bool) → not (a || (b || false)) ≡ (not b && not a)
neither true true = refl
neither true false = refl
neither false true = refl
neither false false = refl

-- what is there already is not the number, where this is
other : (out : List ℕ) (n : ℕ) → has out n ≡ true → (m : ℕ) → not (has out m) ≡ (not (nat_eq m n) && not (has out m))
other out n there m = elim (cases_eq m n) [
  | inl e ↦
      let yes : nat_eq m n ≡ true = grind (arith, nat_tests) in
      let has_it : has out m ≡ true = ap (has out) e ∙ there in
      rw (yes, has_it) refl
  | inr e ↦
      let no : nat_eq m n ≡ false = grind (arith, nat_tests) in
      rw no refl
]

-- those of the numbers that the list has not
abbrev free : List ℕ → List ℕ → List ℕ
free out ns = filter (λ m. not (has out m)) ns

-- those of the numbers that are others
abbrev others : ℕ → List ℕ → List ℕ
others n ns = filter (λ m. not (nat_eq m n)) ns

free-there : (out : List ℕ) (n : ℕ) (ns : List ℕ) → has out n ≡ true → free out (n ∷ others n ns) ≡ free out ns
free-there out n ns e =
    ap (λ b. cond (not b) (n ∷ free out (others n ns)) (free out (others n ns))) e
    ∙ sym (filter-both (λ m. not (has out m)) (λ m. not (nat_eq m n)) (λ m. not (has out m)) (other out n e) ns)

free-new : (out : List ℕ) (n : ℕ) (ns : List ℕ) → has out n ≡ false
    → free out (n ∷ others n ns) ≡ n ∷ free (out ++ n ∷ []) ns
free-new out n ns e =
    ap (λ b. cond (not b) (n ∷ free out (others n ns)) (free out (others n ns))) e
    ∙ ap (λ (ys : List ℕ). n ∷ ys)
    (sym (filter-both (λ m. not (has out m)) (λ m. not (nat_eq m n)) (λ m. not (has (out ++ n ∷ []) m))
    (λ m. ap not (list_any-append (nat_eq m) out (n ∷ [])) ∙ neither (has out m) (nat_eq m n)) ns))

collected : (ns out : List ℕ) → fold added out ns ≡ out ++ free out (firsts ns)
collected [] out = sym (append-nil out)
collected (n ∷ ns) out = by (has out n) refl (collected ns out) (collected ns (out ++ n ∷ []))
  where
    by : (b : Bool) → has out n ≡ b → fold added out ns ≡ out ++ free out (firsts ns)
        → fold added (out ++ n ∷ []) ns ≡ (out ++ n ∷ []) ++ free (out ++ n ∷ []) (firsts ns)
        → fold added (added out n) ns ≡ out ++ free out (firsts (n ∷ ns))
    by true e there new =
        ap (λ b. fold added (cond b out (out ++ n ∷ [])) ns) e
        ∙ there
        ∙ ap (λ (ys : List ℕ). out ++ ys) (sym (free-there out n (firsts ns) e))
    by false e there new =
        ap (λ b. fold added (cond b out (out ++ n ∷ [])) ns) e
        ∙ new
        ∙ append_assoc out (n ∷ []) (free (out ++ n ∷ []) (firsts ns))
        ∙ ap (λ (ys : List ℕ). out ++ ys) (sym (free-new out n (firsts ns) e))

filter-all : (ns : List ℕ) → filter (λ m. not (has [] m)) ns ≡ ns
filter-all [] = refl
filter-all (n ∷ ns) = ap (λ (ys : List ℕ). n ∷ ys) (filter-all ns)

pub all_collected : (ns : List ℕ) → fold added [] ns ≡ firsts ns
all_collected ns = collected ns [] ∙ filter-all (firsts ns)
