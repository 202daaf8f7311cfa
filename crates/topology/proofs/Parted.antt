-- Lists under two tests, and slots place by place.
use Rattle.std.proofs.Common.{◌≡◌, ℕ, Bool, true, false, cond, ◌&&◌, nat_eq, List, [], ◌∷◌, ◌++◌, map, Option, None}
use Rattle.std.proofs.Common.{Some, ◌≤◌, length, refl, sym, ap, subst, ◌∙◌, arith, eqb-true}
use Rattle.std.specs.Prelude.{filter}
use Rattle.std.specs.Option.{is_some}
use Rattle.std.specs.List.{All, find, flat_map, filter_map, cons_option, range_with_len, slice_get}
use Rattle.std.proofs.Math.Bool.{and_comm}
use Rattle.std.proofs.lemmas.List.Elements.{All-nil, All-cons, All-head, All-tail, filter-append, filter_agree}
use Rattle.desk_rows.specs.declared.row.Member.{Member as MemberRow}
use Rattle.desk_rows.specs.declared.row.Slot.{Slot as SlotRow}
use Rattle.desk_rows.specs.laws.Equal.{number_itself}
use Rattle.desk_rows.specs.laws.PlacesOnce.{of_member, of_index, at_place}
use Rattle.topology.specs.Receivers.{by_index, by_place, receiver}
use Rattle.topology.proofs.Distinct.{at, Distinct, past}

-- ---- tests of lists

pub filter-front : {X : Type 0} (p : X → Bool) (x : X) (xs : List X) (b : Bool) → p x ≡ b
    → filter p (x ∷ xs) ≡ cond b (x ∷ filter p xs) (filter p xs)
filter-front p x xs b e = ap (λ c. cond c (x ∷ filter p xs) (filter p xs)) e

-- two tests, one by one
pub filter-and : {X : Type 0} (p q : X → Bool) (xs : List X) → filter (λ x. p x && q x) xs ≡ filter p (filter q xs)
filter-and p q [] = refl
filter-and p q (x ∷ xs) = ap (λ ys. cond (p x && q x) (x ∷ ys) ys) (filter-and p q xs) ∙ by (p x) (q x) refl
  where
    by : (a b : Bool) → p x ≡ a
        → cond (a && b) (x ∷ filter p (filter q xs)) (filter p (filter q xs))
        ≡ filter p (cond b (x ∷ filter q xs) (filter q xs))
    by true true e = sym (filter-front p x (filter q xs) true e)
    by false true e = sym (filter-front p x (filter q xs) false e)
    by true false e = refl
    by false false e = refl

-- tests in either order
pub filter-filter : {X : Type 0} (p q : X → Bool) (xs : List X) → filter p (filter q xs) ≡ filter q (filter p xs)
filter-filter p q xs =
    sym (filter-and p q xs)
    ∙ filter_agree (λ x. p x && q x) (λ x. q x && p x) (λ x. and_comm (p x) (q x)) xs
    ∙ filter-and q p xs

-- a test of what f gives, for each
pub filter-map : {X Y : Type 0} (q : Y → Bool) (f : X → Y) (xs : List X)
    → filter q (map f xs) ≡ map f (filter (λ x. q (f x)) xs)
filter-map q f [] = refl
filter-map q f (x ∷ xs) =
    ap (λ ys. cond (q (f x)) (f x ∷ ys) ys) (filter-map q f xs)
    ∙ elim (q (f x)) as (λ b.
    cond b (f x ∷ map f (filter (λ x. q (f x)) xs)) (map f (filter (λ x. q (f x)) xs))
    ≡ map f (cond b (x ∷ filter (λ x. q (f x)) xs) (filter (λ x. q (f x)) xs)))
    [ true ↦ refl | false ↦ refl ]

pub all_pass : {X : Type 0} (p : X → Bool) (xs : List X) → All (λ x. p x ≡ true) xs → filter p xs ≡ xs
all_pass p [] h = refl
all_pass p (x ∷ xs) h =
    ap (λ b. cond b (x ∷ filter p xs) (filter p xs)) (All-head (λ x. p x ≡ true) x xs h)
    ∙ ap (λ ys. x ∷ ys) (all_pass p xs (All-tail (λ x. p x ≡ true) x xs h))

pub none_pass : {X : Type 0} (xs : List X) → filter (λ x. false) xs ≡ []
none_pass [] = refl
none_pass (x ∷ xs) = none_pass xs

-- a test of what f gives is a test of what it is given
pub filter-filter_map : {X Y : Type 0} (f : X → Option Y) (q : Y → Bool) (p : X → Bool)
    → ((x : X) (y : Y) → f x ≡ Some y → q y ≡ p x) → (xs : List X)
    → filter q (filter_map f xs) ≡ filter_map f (filter p xs)
filter-filter_map f q p same [] = refl
filter-filter_map {Y = Y} f q p same (x ∷ xs) = by (f x) refl (p x) refl (filter-filter_map f q p same xs)
  where
    by : (o : Option Y) → f x ≡ o → (b : Bool) → p x ≡ b
        → filter q (filter_map f xs) ≡ filter_map f (filter p xs)
        → filter q (cons_option o (filter_map f xs)) ≡ filter_map f (cond b (x ∷ filter p xs) (filter p xs))
    by None e true t rest = rest ∙ sym (ap (λ o. cons_option o (filter_map f (filter p xs))) e)
    by None e false t rest = rest
    by (Some y) e true t rest =
        filter-front q y (filter_map f xs) true (same x y e ∙ t)
        ∙ ap (λ ys. y ∷ ys) rest
        ∙ sym (ap (λ o. cons_option o (filter_map f (filter p xs))) e)
    by (Some y) e false t rest = filter-front q y (filter_map f xs) false (same x y e ∙ t) ∙ rest

-- what is true of all that f gives
pub All-filter_map : {X Y : Type 0} (f : X → Option Y) (P : Y → Type 0) → ((x : X) (y : Y) → f x ≡ Some y → P y)
    → (xs : List X) → All P (filter_map f xs)
All-filter_map f P h [] = All-nil P
All-filter_map {Y = Y} f P h (x ∷ xs) = by (f x) refl (All-filter_map f P h xs)
  where
    by : (o : Option Y) → f x ≡ o → All P (filter_map f xs) → All P (cons_option o (filter_map f xs))
    by None e rest = rest
    by (Some y) e rest = All-cons P y (filter_map f xs) (h x y e) rest

-- what there may be, as a list
abbrev pub listed : {X : Type 0} → Option X → List X
listed o = cons_option o []

-- of a key there is what is found, where no two have one key
pub one_of_key : {X : Type 0} (key : X → ℕ) (k : ℕ) (xs : List X) → Distinct key xs
    → filter (λ x. nat_eq (key x) k) xs ≡ listed (at key k xs)
one_of_key key k [] apart = refl
one_of_key key k (x ∷ xs) apart = by (nat_eq (key x) k) refl (one_of_key key k xs apart.1)
  where
    by : (b : Bool) → nat_eq (key x) k ≡ b → filter (λ x. nat_eq (key x) k) xs ≡ listed (at key k xs)
        → cond b (x ∷ filter (λ x. nat_eq (key x) k) xs) (filter (λ x. nat_eq (key x) k) xs)
        ≡ listed (cond b (Some x) (at key k xs))
    by true e rest =
        ap (λ ys. x ∷ ys) (rest ∙ ap listed (sym (ap (λ n. at key n xs) (eqb-true (key x) k e)) ∙ apart.0))
    by false e rest = rest

pub found_front : {X : Type 0} (p : X → Bool) (xs : List X) → find p xs ≡ slice_get (filter p xs) 0
found_front p [] = refl
found_front p (x ∷ xs) =
    elim (p x) as (λ b. cond b (Some x) (find p xs) ≡ slice_get (cond b (x ∷ filter p xs) (filter p xs)) 0)
    [ true ↦ refl | false ↦ found_front p xs ]

-- where nothing is found, nothing passes
pub none_found : {X : Type 0} (p : X → Bool) (xs : List X) → find p xs ≡ None → filter p xs ≡ []
none_found p [] h = refl
none_found p (x ∷ xs) h =
    let none = past (p x) x (find p xs) h in
    ap (λ b. cond b (x ∷ filter p xs) (filter p xs)) none.0 ∙ none_found p xs none.1

-- no two have one key where each key has one element at most
pub apart_once : {X : Type 0} (key : X → ℕ) (xs : List X) → ((k : ℕ) → length (filter (λ x. nat_eq (key x) k) xs) ≤ 1)
    → Distinct key xs
apart_once key [] h = tt
apart_once {X = X} key (x ∷ xs) h =
    let same = filter (λ y. nat_eq (key y) (key x)) xs in
    let alone = subst (λ b. length (cond b (x ∷ same) same) ≤ 1) (number_itself (key x)) (h (key x)) in (
      found_front (λ y. nat_eq (key y) (key x)) xs ∙ none same alone,
      apart_once key xs (λ k. fewer (nat_eq (key x) k) (filter (λ y. nat_eq (key y) k) xs) (h k)),
    )
  where
    none : (ys : List X) → length (x ∷ ys) ≤ 1 → slice_get ys 0 ≡ None
    none [] h = refl
    none (y ∷ ys) h = absurd (omega arith)

    fewer : (b : Bool) (ys : List X) → length (cond b (x ∷ ys) ys) ≤ 1 → length ys ≤ 1
    fewer true ys h = omega (arith, h)
    fewer false ys h = h

-- where the same pass, the same is found
pub found_same : {X : Type 0} (p : X → Bool) (xs ys : List X) → filter p xs ≡ filter p ys → find p xs ≡ find p ys
found_same p xs ys same = found_front p xs ∙ ap (λ zs. slice_get zs 0) same ∙ sym (found_front p ys)

-- what is found passes a test if it is found among those that pass
pub found_passes : {X : Type 0} (key : X → ℕ) (p : X → Bool) (k : ℕ) (x : X) (xs : List X) → Distinct key xs
    → at key k xs ≡ Some x → p x ≡ is_some (at key k (filter p xs))
found_passes key p k x xs apart there =
    sym (ap is_some (found_front (λ x. nat_eq (key x) k) (filter p xs)
    ∙ ap (λ ys. slice_get ys 0) (filter-filter (λ x. nat_eq (key x) k) p xs
    ∙ ap (filter p) (one_of_key key k xs apart ∙ ap listed there)))
    ∙ by (p x))
  where
    by : (b : Bool) → is_some (slice_get (cond b (x ∷ []) []) 0) ≡ b
    by true = refl
    by false = refl

-- groups of what passes a test are what passes it of the groups
pub filter-groups : {X : Type 0} (p : X → Bool) (q : ℕ → X → Bool) (xs : List X) (indexes : List ℕ)
    → filter p (flat_map (λ i. filter (q i) xs) indexes) ≡ flat_map (λ i. filter (q i) (filter p xs)) indexes
filter-groups p q xs [] = refl
filter-groups p q xs (i ∷ indexes) =
    filter-append p (filter (q i) xs) (flat_map (λ j. filter (q j) xs) indexes)
    ∙ (λ k. filter-filter p (q i) xs k ++ filter-groups p q xs indexes k)

-- ---- places

pub at_place-append : (member index : ℕ) (xs ys : List SlotRow)
    → at_place member index (xs ++ ys) ≡ at_place member index xs ++ at_place member index ys
at_place-append member index xs ys =
    ap (filter (of_index index)) (filter-append (of_member member) xs ys)
    ∙ filter-append (of_index index) (filter (of_member member) xs) (filter (of_member member) ys)

pub at_place-filter : (member index : ℕ) (p : SlotRow → Bool) (slots : List SlotRow)
    → at_place member index (filter p slots) ≡ filter p (at_place member index slots)
at_place-filter member index p slots =
    ap (filter (of_index index)) (filter-filter (of_member member) p slots)
    ∙ filter-filter (of_index index) p (filter (of_member member) slots)

of_member-by_index : (member : ℕ) (xs ys : List SlotRow)
    → ((index : ℕ) → at_place member index xs ≡ at_place member index ys)
    → filter (of_member member) (by_index xs) ≡ filter (of_member member) (by_index ys)
unfolding by_index
of_member-by_index member xs ys same =
    filter-groups (of_member member) of_index xs (range_with_len 0 16)
    ∙ (λ k. flat_map (λ i. same i k) (range_with_len 0 16))
    ∙ sym (filter-groups (of_member member) of_index ys (range_with_len 0 16))

-- slots that are the same at each place are in one order
pub by_place-same : (members : List MemberRow) (xs ys : List SlotRow)
    → ((member index : ℕ) → at_place member index xs ≡ at_place member index ys)
    → by_place members (by_index xs) ≡ by_place members (by_index ys)
by_place-same members xs ys same =
    (λ k. flat_map (λ m. map (receiver m) (of_member-by_index m.member xs ys (same m.member) k)) members)

-- nothing is in no order
pub by_index-none : by_index [] ≡ []
unfolding by_index
by_index-none = refl

pub by_place-none : (members : List MemberRow) → by_place members [] ≡ []
by_place-none [] = refl
by_place-none (m ∷ members) = by_place-none members
