-- Steps over the items of a list.
use Rattle.std.proofs.Common.{◌≡◌, ℕ, zero, suc, ◌+◌, ◌<◌, ◌≤◌, List, [], ◌∷◌, length, map, drop, get_or}
use Rattle.std.proofs.Common.{refl, sym, subst, arith}
use Rattle.std.proofs.lemmas.List.{drop_all}
use Rattle.std.specs.List.{FoldsTo}

module _ {P X : Type 0} (R : P → X → P → Type 0) where
  more_at : (xs : List X) (k : ℕ) (d : X) (p j q : P) → k < length xs → R p (get_or xs k d) j
      → FoldsTo R j (drop (suc k) xs) q → FoldsTo R p (drop k xs) q
  more_at [] k d p j q within step rest = absurd (omega (arith, within))
  more_at (x ∷ xs) zero d p j q within step rest = (j, step, rest)
  more_at (x ∷ xs) (suc k) d p j q within step rest = more_at xs k d p j q (omega (arith, within)) step rest

  -- one item more in front
  pub more : (xs : List X) (k : ℕ) (d : X) (p j q : P) → k < length xs → R p (get_or xs k d) j
      → FoldsTo R j (drop (k + 1) xs) q → FoldsTo R p (drop k xs) q
  more xs k d p j q within step rest =
      let is : k + 1 ≡ suc k = omega arith in
      more_at xs k d p j q within step (subst (λ n. FoldsTo R j (drop n xs) q) is rest)

  -- no item is left
  pub none_left : (xs : List X) (k : ℕ) (p : P) → length xs ≤ k → FoldsTo R p (drop k xs) p
  none_left xs k p all = subst (λ l. FoldsTo R p l p) (sym (drop_all k xs all)) refl

-- steps over what items show
pub folds_map : {P X Y : Type 0} (R : P → Y → P → Type 0) (f : X → Y) (xs : List X) (p q : P)
    → FoldsTo (λ a x b. R a (f x) b) p xs q → FoldsTo R p (map f xs) q
folds_map R f [] p q h = h
folds_map R f (x ∷ xs) p q h = (h.0, h.1, folds_map R f xs h.0 q h.2)
