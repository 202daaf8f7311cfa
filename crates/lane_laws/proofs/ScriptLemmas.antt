-- The script of a lane is the merged list of the calls and of its items.
use Rattle.std.proofs.Common.{◌≡◌, ◌+◌, ◌-◌, ◌<◌, ◌≤◌, ℕ, zero, suc, nat_eq, if◌then◌else◌, Bool, List, [], ◌∷◌, ◌++◌}
use Rattle.std.proofs.Common.{length, map, take, drop, refl, ap, sym, subst, ◌∙◌, arith}
use Rattle.std.proofs.lemmas.Bool.Decides.{nat_tests}
use Rattle.desk_edit.specs.Asked.{CallOf as Call}
use Rattle.bridge_core.specs.Events.{Event}
use Rattle.media_workers.specs.LaneRuns.{Versioned}
use Rattle.lane_laws.specs.Merges.{of_version, items_of, merge_from, InOrder, UpTo}
use Rattle.lane_laws.specs.Scripts.{script_from}
use Rattle.lane_laws.proofs.Merging.{eq_self, eq_other, none_before}

-- an item of an earlier version has no place any more
past_item : (v : ℕ) (x : Versioned) (xs : List Versioned) (calls : List Call) → x.version < v
    → merge_from v calls ((x ∷ xs) ∷ []) ≡ merge_from v calls (xs ∷ [])
past_item v x xs [] low =
    ap (λ (b : Bool). items_of 0 (if b then x ∷ of_version v xs else of_version v xs) ++ [])
    (eq_other x.version v (λ e. absurd (omega (arith, low, e))))
past_item v x xs (call ∷ calls) low =
    ap
    (λ (b : Bool).
    (items_of 0 (if b then x ∷ of_version v xs else of_version v xs) ++ [])
    ++ Event.called call ∷ merge_from (v + 1) calls ((x ∷ xs) ∷ []))
    (eq_other x.version v (λ e. absurd (omega (arith, low, e))))
    ∙ ap (λ (es : List Event). (items_of 0 (of_version v xs) ++ []) ++ Event.called call ∷ es)
    (past_item (v + 1) x xs calls (omega (arith, low)))

-- an item of this very version comes first
own_item : (v : ℕ) (x : Versioned) (xs : List Versioned) (calls : List Call) → x.version ≡ v
    → merge_from v calls ((x ∷ xs) ∷ []) ≡ Event.item 0 x.input ∷ merge_from v calls (xs ∷ [])
own_item v x xs [] is =
    ap (λ (b : Bool). items_of 0 (if b then x ∷ of_version v xs else of_version v xs) ++ [])
    (ap (λ (k : ℕ). nat_eq k v) is ∙ eq_self v)
own_item v x xs (call ∷ calls) is =
    ap
    (λ (b : Bool).
    (items_of 0 (if b then x ∷ of_version v xs else of_version v xs) ++ [])
    ++ Event.called call ∷ merge_from (v + 1) calls ((x ∷ xs) ∷ []))
    (ap (λ (k : ℕ). nat_eq k v) is ∙ eq_self v)
    ∙ ap
    (λ (es : List Event). (Event.item 0 x.input ∷ items_of 0 (of_version v xs) ++ []) ++ Event.called call ∷ es)
    (past_item (v + 1) x xs calls (omega (arith, is)))

-- without items there are the calls alone
no_items : (v : ℕ) (calls : List Call) → map Event.called calls ≡ merge_from v calls ([] ∷ [])
no_items v [] = refl
no_items v (call ∷ calls) = ap (λ (es : List Event). Event.called call ∷ es) (no_items (v + 1) calls)

-- before the first item stand the calls that lead to its version
leading : (n told : ℕ) (calls : List Call) (x : Versioned) (xs : List Versioned) → x.version ≡ told + n
    → n ≤ length calls → InOrder x.version xs
    → merge_from told calls ((x ∷ xs) ∷ [])
    ≡ map Event.called (take n calls) ++ merge_from x.version (drop n calls) ((x ∷ xs) ∷ [])
leading zero told calls x xs is few order =
    let at : told ≡ x.version = omega (arith, is) in
    ap (λ (v : ℕ). merge_from v calls ((x ∷ xs) ∷ [])) at
leading (suc n) told [] x xs is few order = absurd (omega (arith, few))
leading (suc n) told (call ∷ calls) x xs is few order =
    let none : of_version told (x ∷ xs) ≡ [] =
    none_before told x.version (x ∷ xs) (omega (arith, is)) (omega arith, order) in
    ap
    (λ (ys : List Versioned).
    (items_of 0 ys ++ []) ++ Event.called call ∷ merge_from (told + 1) calls ((x ∷ xs) ∷ []))
    none
    ∙ ap (λ (es : List Event). Event.called call ∷ es)
    (leading n (told + 1) calls x xs (omega (arith, is)) (omega (arith, few)) order)

-- how many calls are left
left : (n : ℕ) (calls : List Call) → n ≤ length calls → n + length (drop n calls) ≡ length calls
left zero calls few = omega arith
left (suc n) [] few = absurd (omega (arith, few))
left (suc n) (call ∷ calls) few = omega (arith, left n calls (omega (arith, few)))

pub script_is : (told : ℕ) (calls : List Call) (items : List Versioned) → InOrder told items
    → UpTo (told + length calls) items → script_from told calls items ≡ merge_from told calls (items ∷ [])
script_is told calls [] order up = no_items told calls
script_is told calls (x ∷ xs) order up =
    let n : ℕ = x.version - told in
    let at : x.version ≡ told + n = omega (arith, order.0) in
    let few : n ≤ length calls = omega (arith, order.0, up.0) in
    let rest = drop n calls in
    let most : told + length calls ≡ x.version + length rest = omega (arith, at, left n calls few) in
    ap (λ (es : List Event). map Event.called (take n calls) ++ Event.item 0 x.input ∷ es)
    (script_is x.version rest xs order.1 (subst (λ (m : ℕ). UpTo m xs) most up.1))
    ∙ (ap (λ (es : List Event). map Event.called (take n calls) ++ es) (sym (own_item x.version x xs rest refl))
    ∙ sym (leading n told calls x xs at few order.1))
