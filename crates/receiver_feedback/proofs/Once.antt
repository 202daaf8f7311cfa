-- Each number once.
use Rattle.std.proofs.Common.{◌≡◌, ℕ, Bool, true, false, ◌&&◌, ◌||◌, not, nat_eq, List, [], ◌∷◌, ◌++◌, filter, cond}
use Rattle.std.proofs.Common.{refl, ap, sym, ◌∙◌, inl, inr, arith}
use Rattle.std.proofs.lemmas.List.Sums.{fold_push}
use Rattle.std.proofs.lemmas.Bool.{cases_eq}
use Rattle.std.proofs.lemmas.Bool.Decides.{nat_tests}
use Rattle.receiver_feedback.specs.Resends.{firsts}
use Rattle.receiver_feedback.specs.inner.Seen.{has, added}
use Rattle.receiver_feedback.proofs.Collected.{filter-both, all_collected}

abbrev is_other : ℕ → ℕ → Bool
is_other n m = not (nat_eq m n)

same : (m n : ℕ) → m ≡ n → nat_eq m n ≡ true
same m n e = grind (arith, nat_tests)

differ : (m n : ℕ) → (m ≡ n → ⊥) → nat_eq m n ≡ false
differ m n e = grind (arith, nat_tests)

has-others : (n m : ℕ) (ns : List ℕ) → (m ≡ n → ⊥) → has (filter (is_other n) ns) m ≡ has ns m
has-others n m [] d = refl
has-others n m (k ∷ ns) d = elim (cases_eq k n) [
  | inl e ↦
      let out : nat_eq k n ≡ true = same k n e in
      let no : nat_eq m k ≡ false = differ m k (λ is. d (is ∙ e)) in
      rw (out, no) (has-others n m ns d)
  | inr e ↦
      let stays : nat_eq k n ≡ false = differ k n e in
      rw stays (ap (λ b. nat_eq m k || b) (has-others n m ns d))
]

has-firsts : (ns : List ℕ) (m : ℕ) → has (firsts ns) m ≡ has ns m
has-firsts [] m = refl
has-firsts (n ∷ ns) m = elim (cases_eq m n) [
  | inl e ↦ let yes : nat_eq m n ≡ true = same m n e in rw yes refl
  | inr e ↦ ap (λ b. nat_eq m n || b) (has-others n m (firsts ns) e ∙ has-firsts ns m)
]

no_more : (ns : List ℕ) → filter (λ m. false) ns ≡ []
no_more [] = refl
no_more (n ∷ ns) = no_more ns

not_both : (n k : ℕ) → false ≡ (is_other n k && nat_eq n k)
not_both n k = elim (cases_eq k n) [
  | inl e ↦ let yes : nat_eq k n ≡ true = same k n e in rw yes refl
  | inr e ↦
      let no : nat_eq n k ≡ false = differ n k (λ is. e (sym is)) in
      let other : nat_eq k n ≡ false = differ k n e in rw (other, no) refl
]

implied : (n m : ℕ) → (m ≡ n → ⊥) → (k : ℕ) → nat_eq m k ≡ (is_other n k && nat_eq m k)
implied n m d k = elim (cases_eq k n) [
  | inl e ↦
      let yes : nat_eq k n ≡ true = same k n e in
      let no : nat_eq m k ≡ false = differ m k (λ is. d (is ∙ e)) in rw (yes, no) refl
  | inr e ↦ let no : nat_eq k n ≡ false = differ k n e in rw no refl
]

pub once : (ns : List ℕ) (m : ℕ) → filter (nat_eq m) (firsts ns) ≡ cond (has ns m) (m ∷ []) []
once [] m = refl
once (n ∷ ns) m = elim (cases_eq m n) [
  | inl e ↦
      let yes : nat_eq m n ≡ true = same m n e in
      let rest : filter (nat_eq n) (filter (is_other n) (firsts ns)) ≡ [] =
      sym (filter-both (nat_eq n) (is_other n) (λ k. false) (not_both n) (firsts ns)) ∙ no_more (firsts ns) in
      let left : filter (nat_eq m) (filter (is_other n) (firsts ns)) ≡ [] =
      ap (λ k. filter (nat_eq k) (filter (is_other n) (firsts ns))) e ∙ rest in
      rw yes (ap (λ (ks : List ℕ). n ∷ ks) left ∙ ap (λ k. k ∷ []) (sym e))
  | inr e ↦
      let no : nat_eq m n ≡ false = differ m n e in
      rw no (sym (filter-both (nat_eq m) (is_other n) (nat_eq m) (implied n m e) (firsts ns)) ∙ once ns m)
]

pub one_more : (ns : List ℕ) (n : ℕ) → firsts (ns ++ n ∷ []) ≡ cond (has ns n) (firsts ns) (firsts ns ++ n ∷ [])
one_more ns n =
    sym (all_collected (ns ++ n ∷ [])) ∙ fold_push added [] ns n ∙ ap (λ ks. added ks n) (all_collected ns)
    ∙ ap (λ b. cond b (firsts ns) (firsts ns ++ n ∷ [])) (has-firsts ns n)
