-- Lists that rise by a key.
use Rattle.std.proofs.Common.{◌≡◌, ℕ, Bool, true, false, cond, ◌&&◌, nat_eq, nat_lt, List, [], ◌∷◌, Option, None, Some}
use Rattle.std.proofs.Common.{refl, ap, ◌∙◌, arith}
use Rattle.std.specs.List.{filter_map, cons_option, list_all, AllByRecursion}
use Rattle.std.proofs.lemmas.Bool.{and_parts, and_from}
use Rattle.std.proofs.lemmas.Bool.Decides.{nat_tests}
use Rattle.desk_rows.specs.declared.row.Row.{Row}
use Rattle.desk_rows.specs.Order.{precedes, in_order}
use Rattle.topology.proofs.Distinct.{at, Distinct, all_apart}
pub use Rattle.topology.proofs.Distinct.{Found}

-- each key is less than all behind it
abbrev pub rises : {X : Type 0} → (X → ℕ) → List X → Bool
rises key [] = true
rises key (x ∷ xs) = list_all (λ y. nat_lt (key x) (key y)) xs && rises key xs

differ_turned : (a b : ℕ) → nat_lt a b ≡ true → nat_eq b a ≡ false
differ_turned a b e = grind (arith, nat_tests)

none_above : {X : Type 0} (key : X → ℕ) (n : ℕ) (xs : List X) → list_all (λ y. nat_lt n (key y)) xs ≡ true
    → at key n xs ≡ None
none_above key n [] h = refl
none_above key n (x ∷ xs) h =
    let both = and_parts (nat_lt n (key x)) (list_all (λ y. nat_lt n (key y)) xs) h in
    ap (λ b. cond b (Some x) (at key n xs)) (differ_turned n (key x) both.0) ∙ none_above key n xs both.1

-- no two have one key
pub apart : {X : Type 0} (key : X → ℕ) (xs : List X) → rises key xs ≡ true → Distinct key xs
apart key [] h = tt
apart key (x ∷ xs) h =
    let both = and_parts (list_all (λ y. nat_lt (key x) (key y)) xs) (rises key xs) h in
    (none_above key (key x) xs both.0, apart key xs both.1)

-- each element is the one of its key
pub all_found : {X : Type 0} (key : X → ℕ) (xs : List X) → rises key xs ≡ true → AllByRecursion (Found key xs) xs
all_found key xs h = all_apart key xs (apart key xs h)

-- ---- rows in order

-- a kind of row whose order is that of a key
abbrev pub Keyed : {X : Type 0} → (Row → Option X) → (X → ℕ) → Type 0
Keyed {X} part key =
    (a b : Row) (x y : X) → part a ≡ Some x → part b ≡ Some y → precedes a b ≡ true → nat_lt (key x) (key y) ≡ true

behind : {X : Type 0} (part : Row → Option X) (key : X → ℕ) (keyed : Keyed part key) (a : Row) (x : X) → part a ≡ Some x
    → (rs : List Row) → list_all (precedes a) rs ≡ true
    → list_all (λ y. nat_lt (key x) (key y)) (filter_map part rs) ≡ true
behind part key keyed a x e [] h = refl
behind part key keyed a x e (r ∷ rs) h =
    let both = and_parts (precedes a r) (list_all (precedes a) rs) h in
    by (part r) refl (behind part key keyed a x e rs both.1) both.0
  where
    by : (o : Option _) → part r ≡ o → list_all (λ y. nat_lt (key x) (key y)) (filter_map part rs) ≡ true
        → precedes a r ≡ true → list_all (λ y. nat_lt (key x) (key y)) (cons_option o (filter_map part rs)) ≡ true
    by None f rest one = rest
    by (Some y) f rest one = and_from _ _ (keyed a r x y e f one) rest

pub rising : {X : Type 0} (part : Row → Option X) (key : X → ℕ) (keyed : Keyed part key) (rs : List Row)
    → in_order rs ≡ true → rises key (filter_map part rs) ≡ true
rising part key keyed [] h = refl
rising part key keyed (r ∷ rs) h =
    let both = and_parts (list_all (precedes r) rs) (in_order rs) h in
    by (part r) refl (rising part key keyed rs both.1) both.0
  where
    by : (o : Option _) → part r ≡ o → rises key (filter_map part rs) ≡ true → list_all (precedes r) rs ≡ true
        → rises key (cons_option o (filter_map part rs)) ≡ true
    by None e rest one = rest
    by (Some x) e rest one = and_from _ _ (behind part key keyed r x e rs one) rest
