-- What goes is found by keys.
use Rattle.std.specs.Prelude.{◌≡◌, ◌≤◌, ◌&&◌}
use Rattle.desk_edit.proofs.Words.{ℕ, true, false, filter, inl, inr, sym, ap, ◌∙◌, arith, ltb-false, list_any}
use Rattle.desk_edit.proofs.Words.{and_right, cases_Bool, Key, kind_of, key_of, has_key, same_key, Desk, good, rows_of}
use Rattle.desk_edit.proofs.Words.{row_at, IsKeyed, finds, same_key_is, its_key, good_order, order_once, found_passes}
use Rattle.desk_edit.proofs.Words.{skipped, goes_within, goes_with, has, level, is_above, found_list}
use Rattle.desk_rows.specs.declared.key.Key.TheVariants as keys
use Rattle.desk_edit.proofs.Lists.{and_first, any_none, filter_alike, filter_found}
use Rattle.desk_edit.proofs.Dependence.{own_goes, three_at_most, own_only}

pub name_goes : (d : Desk) → IsKeyed d → (n : ℕ) (key name : Key)
    → list_any (λ s. has_key name s && goes_within n d key s) (rows_of d) ≡ finds (goes_within n d key) (row_at d name)
name_goes d keyed n key name = found_passes (has_key name) (goes_within n d key) (rows_of d) (keyed.once name)

-- a row that has a name which can not go does not go
pub none_goes : (d : Desk) (n : ℕ) (key name : Key) → is_above name key ≡ false → same_key name key ≡ false
    → list_any (λ s. has_key name s && goes_within n d key s) (rows_of d) ≡ false
none_goes d n key name low other =
    any_none (λ s. has_key name s && goes_within n d key s) (rows_of d) (λ s one. elim (cases_Bool (has_key name s)) [
      | inr off ↦ ap (λ b. b && goes_within n d key s) off
      | inl own ↦
          let is = its_key name s own in
          let at : ◌≡◌ {A = ℕ} (level (kind_of (key_of s))) (level (kind_of name)) = ap (λ k. level (kind_of k)) is in
          let few = ltb-false (level (kind_of key)) (level (kind_of name)) low in
          and_right _ _ (own_only n d key s (omega (arith, at, few)) ∙ ap (λ k. same_key k key) is ∙ other)
    ])

-- a row that has the key goes, if there is one
pub same_goes : (d : Desk) (n : ℕ) (key name : Key) → same_key name key ≡ true
    → list_any (λ s. has_key name s && goes_within n d key s) (rows_of d) ≡ has d key
same_goes d n key name same =
    ap (λ k. list_any (λ s. has_key k s && goes_within n d key s) (rows_of d)) (same_key_is name key same)
    ∙ (λ i. list_any (λ s. and_first (has_key key s) (goes_within n d key s) (own_goes n d key s) i) (rows_of d))

-- a key that high is no member's
pub no_members_key : (key : Key) → 2 ≤ level (kind_of key) → (n : ℕ) → key ≡ keys.Member n → ⊥
no_members_key key high n is =
    let one : ◌≡◌ {A = ℕ} (level (kind_of key)) 1 = ap (λ k. level (kind_of k)) is in omega (arith, high, one)

-- the row of a key that no row names goes alone
pub goes_alone : (d : Desk) (key : Key) → good d ≡ true → level (kind_of key) ≡ 3
    → found_list (row_at d key) ≡ filter (goes_with d key) d.others
goes_alone d key g top =
    ap found_list (skipped key (no_members_key key (omega (arith, top))) d.members d.others)
    ∙ sym (filter_alike (goes_with d key) (has_key key) d.others
    (λ x one. let few = three_at_most (kind_of (key_of x)) in own_only 3 d key x (omega (arith, few, top)))
    ∙ filter_found (has_key key) d.others (order_once key d.others (good_order d g)))
