-- What goes with a row is what depends on it.
use Rattle.std.specs.Prelude.{◌≡◌, ◌<◌, ◌≤◌, ◌&&◌, ◌∷◌, ◌⊎◌}
use Rattle.desk_edit.proofs.Words.{ℕ, zero, suc, nat_lt, Bool, true, List, [], inl, inr, refl, sym, ap, ◌∙◌, subst}
use Rattle.desk_edit.proofs.Words.{arith, list_any, list_all, and_parts, and_from, or_left, or_right, or_cases, Row}
use Rattle.desk_edit.proofs.Words.{Key, Kind, kind_of, key_of, has_key, names, Desk, rows_of, holds, its_key, both_ways}
use Rattle.desk_edit.proofs.Words.{true_false, witness, Names, Depends, IsDependent, goes_within, goes_with, level}
use Rattle.desk_rows.specs.declared.row.Row.TheVariants as rows
use Rattle.desk_rows.specs.declared.key.Kind.TheVariants as kinds
use Rattle.desk_edit.proofs.Lists.{row_some}

-- a key that passes, where some do
pub key_some : (p : Key → Bool) (ks : List Key) → list_any p ks ≡ true
    → (k : Key) × (p k ≡ true) × ((q : Key → Bool) → q k ≡ true → list_any q ks ≡ true)
    × ((q : Key → Bool) → list_all q ks ≡ true → q k ≡ true)
key_some p [] h = absurd (true_false (sym h))
key_some p (k ∷ ks) h =
    elim (or_cases (p k) (list_any p ks) h) [
      | inl e ↦ (k, e, λ q here. or_left _ _ here, λ q all. (and_parts (q k) (list_all q ks) all).0)
      | inr e ↦
          let w = key_some p ks e in
          (w.0, w.1, λ q here. or_right _ _ (w.2 q here), λ q all. w.3 q (and_parts (q k) (list_all q ks) all).1)
    ]

pub only_dependent : (n : ℕ) (d : Desk) (key : Key) (r : Row) → goes_within n d key r ≡ true
    → (has_key key r ≡ true) ⊎ IsDependent d key r
only_dependent zero d key r h = inl h
only_dependent (suc n) d key r h =
    elim (or_cases (has_key key r)
    (list_any (λ k. list_any (λ s. has_key k s && goes_within n d key s) (rows_of d)) (names r)) h) [
      | inl own ↦ inl own
      | inr e ↦
          let k = key_some (λ k. list_any (λ s. has_key k s && goes_within n d key s) (rows_of d)) (names r) e in
          let t = witness (λ s. has_key k.0 s && goes_within n d key s) (rows_of d) k.1 in
          let both = and_parts (has_key k.0 t.0) (goes_within n d key t.0) t.2 in
          let named : Names r t.0 = k.2 (λ j. has_key j t.0) both.0 in
          inr (elim (only_dependent n d key t.0 both.1) [
            | inl own ↦ (t.0, t.1, own, Depends.direct r t.0 named)
            | inr more ↦ (more.0, more.1, more.2, Depends.through r t.0 more.0 named t.1 more.3)
          ])
    ]

one_further : (n : ℕ) (d : Desk) (key : Key) (r t : Row) → Names r t → holds d t ≡ true → goes_within n d key t ≡ true
    → goes_within (suc n) d key r ≡ true
one_further n d key r t named held goes =
    let k = key_some (λ j. has_key j t) (names r) named in
    or_right (has_key key r) _ (k.2 (λ j. list_any (λ s. has_key j s && goes_within n d key s) (rows_of d))
    (row_some (λ s. has_key k.0 s && goes_within n d key s) (rows_of d) t held (and_from _ _ k.1 goes)))

pub own_goes : (n : ℕ) (d : Desk) (key : Key) (s : Row) → has_key key s ≡ true → goes_within n d key s ≡ true
own_goes zero d key s h = h
own_goes (suc n) d key s h = or_left _ _ h

pub three_at_most : (kind : Kind) → level kind ≤ 3
three_at_most kinds.Room = omega arith
three_at_most _ = omega arith

-- what a row names stands below it
lower : (r t : Row) → Names r t → level (kind_of (key_of t)) < level (kind_of (key_of r))
lower r t named =
    let k = key_some (λ j. has_key j t) (names r) named in
    let less : nat_lt (level (kind_of (key_of t))) (level (kind_of (key_of r))) ≡ true =
    ap (λ q. nat_lt (level (kind_of q)) (level (kind_of (key_of r)))) (its_key k.0 t k.1)
    ∙ k.3 (λ j. nat_lt (level (kind_of j)) (level (kind_of (key_of r)))) (all_lower r) in
    grind (arith, less) where
      all_lower : (r : Row) → list_all (λ k. nat_lt (level (kind_of k)) (level (kind_of (key_of r)))) (names r) ≡ true
      all_lower (rows.Room r) = refl
      all_lower _ = refl

pub within : (n : ℕ) (d : Desk) (key : Key) (r s : Row) → level (kind_of (key_of r)) ≤ n → holds d s ≡ true
    → has_key key s ≡ true → Depends d r s → goes_within n d key r ≡ true
within zero d key r s few held own (Depends.direct _ _ named) =
    absurd (let less = lower r s named in omega (arith, less, few))
within zero d key r s few held own (Depends.through _ t _ named there rest) =
    absurd (let less = lower r t named in omega (arith, less, few))
within (suc n) d key r s few held own (Depends.direct _ _ named) =
    one_further n d key r s named held (own_goes n d key s own)
within (suc n) d key r s few held own (Depends.through _ t _ named there rest) =
    one_further n d key r t named there
    (within n d key t s (let less = lower r t named in omega (arith, less, few)) held own rest)

pub dependent_goes : (d : Desk) (key : Key) (r : Row) → IsDependent d key r → goes_with d key r ≡ true
dependent_goes d key r h = within 3 d key r h.0 (three_at_most (kind_of (key_of r))) h.1 h.2 h.3

-- more steps than a row's level say the same
pub steady : (n : ℕ) (d : Desk) (key : Key) (r : Row) → level (kind_of (key_of r)) ≤ n
    → goes_within n d key r ≡ goes_with d key r
steady n d key r few = both_ways (goes_within n d key r) (goes_with d key r)
    (λ h. elim (only_dependent n d key r h) [
      | inl own ↦ own_goes 3 d key r own
      | inr more ↦ dependent_goes d key r more
    ])
    (λ h. elim (only_dependent 3 d key r h) [
      | inl own ↦ own_goes n d key r own
      | inr more ↦ within n d key r more.0 few more.1 more.2 more.3
    ])

-- what depends on a row stands above it
above : (d : Desk) (r s : Row) → Depends d r s → level (kind_of (key_of s)) < level (kind_of (key_of r))
above d r s (Depends.direct _ _ named) = lower r s named
above d r s (Depends.through _ t _ named there rest) =
    let less = lower r t named in let more = above d t s rest in omega (arith, less, more)

-- so what stands no higher than a key goes with it only where it has it
pub own_only : (n : ℕ) (d : Desk) (key : Key) (r : Row) → level (kind_of (key_of r)) ≤ level (kind_of key)
    → goes_within n d key r ≡ has_key key r
own_only n d key r low = both_ways (goes_within n d key r) (has_key key r)
    (λ h. elim (only_dependent n d key r h) [
      | inl own ↦ own
      | inr more ↦
          absurd (let over =
          subst (λ (k : Key). level (kind_of k) < level (kind_of (key_of r))) (its_key key more.0 more.2)
          (above d r more.0 more.3) in
          omega (arith, low, over))
    ])
    (own_goes n d key r)
