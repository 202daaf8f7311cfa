-- Things seated at their members' places and sorted by these are in the order of the members.
use Rattle.std.proofs.Common.{◌≡◌, ℕ, zero, suc, ◌+◌, ◌<◌, Bool, true, false, cond, not, ◌&&◌, nat_eq}
use Rattle.std.proofs.Common.{List, [], ◌∷◌, ◌++◌, map, length, Option, None, Some, refl, sym, ap, subst, ◌∙◌}
use Rattle.std.proofs.Common.{◌||◌, ◌&&◌, nat_le, nat_lt, arith, eqb-true}
use denote.Param.Members.{Mut}
use denote.Ref.{Bor}
use Rattle.std.specs.Prelude.{filter}
use Rattle.std.specs.Option.{option_map}
use Rattle.std.specs.Ordering.{nat_cmp, is_lt}
use Rattle.std.specs.Fn.{Called}
use Rattle.std.specs.List.{All, filter_map, flat_map, cons_option, range_with_len, slice_get}
use Rattle.std.specs.List.Sorted.{IsNonDecreasingBy, IsStableByKeyClosure}
use Rattle.std.proofs.lemmas.Fn.{always_returns_same}
use Rattle.std.proofs.lemmas.Bool.{and_parts, leb-true, eq-eqb, ne_eqb, both_ways}
use Rattle.std.proofs.lemmas.Bool.Decides.{nat_tests}
use Rattle.std.proofs.lemmas.List.{map-append}
use Rattle.std.proofs.lemmas.Option.{none-some, same_Some}
use Rattle.std.proofs.lemmas.List.Elements.{All-nil, All-cons, All-head, All-tail, All-filter}
use Rattle.std.proofs.lemmas.List.Elements.{filter_agree, filter_passes}
use Rattle.desk_rows.specs.declared.row.Member.{Member as MemberRow}
use Rattle.desk_rows.specs.declared.row.Slot.{Slot as SlotRow}
use Rattle.desk_rows.specs.Places.{place_in}
use Rattle.desk_rows.specs.laws.Equal.{number_itself}
use Rattle.desk_rows.specs.Desk.{Desk, good}
use Rattle.topology.specs.declared.seating.Seated.{Seated}
use Rattle.topology.specs.Looking.{member_at}
use Rattle.topology.specs.Receivers.{by_index}
use Rattle.topology.specs.inner.Seating.{seat_at, seat_of, seat_with, seat, by_members, by_places}
use Rattle.topology.proofs.Distinct.{at, Distinct, groups}
use Rattle.topology.proofs.Finding.{found_key}
use Rattle.topology.proofs.KindRows.{number, member_row}
use Rattle.topology.proofs.GoodRows.{members_distinct, no_members}
use Rattle.topology.proofs.Parted.{none_pass, all_pass, All-filter_map, filter-filter_map}

-- ---- what a stable sort gives

test_same : (a b : ℕ) → (not (is_lt (nat_cmp a b)) && not (is_lt (nat_cmp b a))) ≡ nat_eq b a
test_same a b = grind (arith, nat_tests)

-- the elements of one key stand as they stood
pub same_groups : {X F : Type 0} {g : Mut F (Bor X × Unit {0}) ℕ} {f : F} (n : X → ℕ) (xs ys : List X)
    → IsStableByKeyClosure g nat_cmp f xs ys
    → ((a : Bor X × Unit {0}) (r : ℕ) (f' : F) → Called g f a r f' → (r ≡ n a.0.now) × (f' ≡ f))
    → (i : ℕ) → filter (λ y. nat_eq (n y) i) ys ≡ filter (λ y. nat_eq (n y) i) xs
same_groups {X = X} {g = g} {f = f} n xs ys stable computes i = by (of_key i ys) (of_key i xs) refl refl
  where
    of_key : ℕ → List X → List X
    of_key k zs = filter (λ y. nat_eq (n y) k) zs

    at_key : (x : X) → of_key (n x) ys ≡ of_key (n x) xs
    at_key x =
        sym (λ i. filter (λ y. test_same (n x) (n y) i) ys)
        ∙ stable n (always_returns_same g (λ a r. r ≡ n a.0.now) f computes) x
        ∙ (λ i. filter (λ y. test_same (n x) (n y) i) xs)

    at_first : (zs : List X) (z : X) (rest : List X) → of_key i zs ≡ z ∷ rest → of_key i ys ≡ of_key i xs
    at_first zs z rest is =
        let passes = All-head (λ y. nat_eq (n y) i ≡ true) z rest
        (subst (All (λ y. nat_eq (n y) i ≡ true)) is (filter_passes (λ y. nat_eq (n y) i) zs)) in
        subst (λ k. of_key k ys ≡ of_key k xs) (eqb-true (n z) i passes) (at_key z)

    by : (os ps : List X) → of_key i ys ≡ os → of_key i xs ≡ ps → of_key i ys ≡ of_key i xs
    by [] [] e f = e ∙ sym f
    by (z ∷ os) ps e f = at_first ys z os e
    by [] (z ∷ ps) e f = at_first xs z ps f

-- no element has a key that is less than all
none_below : {X : Type 0} (n : X → ℕ) (k : ℕ) (ys : List X) → All (λ y. k < n y) ys
    → filter (λ y. nat_eq (n y) k) ys ≡ []
none_below n k [] h = refl
none_below n k (y ∷ ys) h =
    ap (λ b. cond b (y ∷ filter (λ y. nat_eq (n y) k) ys) (filter (λ y. nat_eq (n y) k) ys))
    (other (n y) (All-head (λ y. k < n y) y ys h))
    ∙ none_below n k ys (All-tail (λ y. k < n y) y ys h)
  where
    other : (a : ℕ) → k < a → nat_eq a k ≡ false
    other a h = grind (arith, nat_tests)

-- those of a key, and behind them those of greater keys
joined : {X : Type 0} (n : X → ℕ) (k : ℕ) (q : X → Bool) → ((y : X) → q y ≡ true → k < n y) → (ys : List X)
    → IsNonDecreasingBy n ys
    → filter (λ y. nat_eq (n y) k) ys ++ filter q ys ≡ filter (λ y. nat_eq (n y) k || q y) ys
joined n k q more [] up = refl
joined {X = X} n k q more (y ∷ ys) up =
    by (nat_eq (n y) k) refl (q y) refl
    (joined n k q more ys (λ i j d le lt. up (suc i) (suc j) d (omega arith) (omega arith)))
  where
    those : List X
    those = filter (λ y. nat_eq (n y) k) ys

    whole : List X
    whole = filter (λ y. nat_eq (n y) k || q y) ys

    none : k < n y → those ≡ []
    none more = none_below n k ys (λ i d lt. let far = up 0 (suc i) d (omega arith) (omega arith) in omega arith)

    by : (a : Bool) → nat_eq (n y) k ≡ a → (b : Bool) → q y ≡ b → those ++ filter q ys ≡ whole
        → cond a (y ∷ those) those ++ cond b (y ∷ filter q ys) (filter q ys) ≡ cond (a || b) (y ∷ whole) whole
    by true e true f rest = absurd (let is = eqb-true (n y) k e in let above = more y f in omega arith)
    by true e false f rest = ap (λ zs. y ∷ zs) rest
    by false e true f rest =
        ap (λ zs. zs ++ (y ∷ filter q ys)) (none (more y f))
        ∙ ap (λ zs. y ∷ zs) (sym (ap (λ zs. zs ++ filter q ys) (none (more y f))) ∙ rest)
    by false e false f rest = rest

-- the key is one of so many from k on
abbrev within : {X : Type 0} → (X → ℕ) → ℕ → ℕ → X → Bool
within n k l y = nat_le k (n y) && nat_lt (n y) (k + l)

-- where keys rise, groups of keys in a row are what has these keys
groups_within : {X : Type 0} (n : X → ℕ) (ys : List X) → IsNonDecreasingBy n ys → (k l : ℕ)
    → groups n (λ i. i) ys (range_with_len k l) ≡ filter (within n k l) ys
groups_within n ys up k zero =
    sym (filter_agree (within n k 0) (λ y. false) (λ y. nothing k (n y)) ys ∙ none_pass ys)
  where
    nothing : (k m : ℕ) → (nat_le k m && nat_lt m (k + 0)) ≡ false
    nothing k m = grind (arith, nat_tests)
groups_within n ys up k (suc l) =
    ap (λ zs. filter (λ y. nat_eq (n y) k) ys ++ zs) (groups_within n ys up (k + 1) l)
    ∙ joined n k (within n (k + 1) l) (λ y e. greater (n y) (and_parts _ _ e).0) ys up
    ∙ filter_agree (λ y. nat_eq (n y) k || within n (k + 1) l y) (within n k (suc l)) (λ y. wider (n y)) ys
  where
    greater : (m : ℕ) → nat_le (k + 1) m ≡ true → k < m
    greater m e = let above = leb-true (k + 1) m e in omega arith

    wider : (m : ℕ)
        → (nat_eq m k || (nat_le (k + 1) m && nat_lt m ((k + 1) + l))) ≡ (nat_le k m && nat_lt m (k + suc l))
    wider m = grind (arith, nat_tests)

-- what is true of the elements of each key is true of all
all_by_keys : {X : Type 0} (P : X → Type 0) (n : X → ℕ) (ys : List X)
    → ((i : ℕ) → All P (filter (λ y. nat_eq (n y) i) ys)) → All P ys
all_by_keys P n [] h = All-nil P
all_by_keys {X = X} P n (y ∷ ys) h =
    All-cons P y ys
    (All-head P y (of_key (n y))
    (subst (All P) (ap (λ b. cond b (y ∷ of_key (n y)) (of_key (n y))) (number_itself (n y))) (h (n y))))
    (all_by_keys P n ys (λ i. by (nat_eq (n y) i) (of_key i) (h i)))
  where
    of_key : ℕ → List X
    of_key k = filter (λ y. nat_eq (n y) k) ys

    by : (b : Bool) (zs : List X) → All P (cond b (y ∷ zs) zs) → All P zs
    by true zs h = All-tail P y zs h
    by false zs h = h

-- a list whose keys rise, and whose elements of each key are those of another, is the groups of the other
pub in_order_by : {X : Type 0} (n : X → ℕ) (l : ℕ) (xs ys : List X) → All (λ x. n x < l) xs → IsNonDecreasingBy n ys
    → ((i : ℕ) → filter (λ y. nat_eq (n y) i) ys ≡ filter (λ y. nat_eq (n y) i) xs)
    → ys ≡ groups n (λ i. i) xs (range_with_len 0 l)
in_order_by n l xs ys small up same =
    sym (groups_within n ys up 0 l
    ∙ all_pass (within n 0 l) ys (all_by_keys (λ y. within n 0 l y ≡ true) n ys (λ i.
    subst (All (λ y. within n 0 l y ≡ true)) (sym (same i))
    (All-filter (λ y. nat_eq (n y) i) (λ y. within n 0 l y ≡ true) xs (λ i d lt. inside _ (small i d lt))))))
    ∙ (λ k. flat_map (λ i. same i k) (range_with_len 0 l))
  where
    inside : (m : ℕ) → m < l → (nat_le 0 m && nat_lt m (0 + l)) ≡ true
    inside m lt = grind (arith, nat_tests)

-- slots whose indexes rise, those of each index being as they stood, are in the order of their indexes
pub rising_by_index : (slots sorted : List SlotRow) → All (λ s. s.index < 16) slots
    → IsNonDecreasingBy (λ s. s.index) sorted
    → ((i : ℕ) → filter (λ s. nat_eq s.index i) sorted ≡ filter (λ s. nat_eq s.index i) slots) → sorted ≡ by_index slots
unfolding by_index
rising_by_index slots sorted few up same = in_order_by (λ s. s.index) 16 slots sorted few up same

-- ---- places

place_within : (ms : List MemberRow) (n q : ℕ) → place_in ms n ≡ Some q → q < length ms
place_within [] n q h = absurd (cc)
place_within (m ∷ ms) n q h = by (nat_eq m.member n) (place_in ms n) h (λ r. place_within ms n r)
  where
    by : (b : Bool) (o : Option ℕ) → cond b (Some 0) (option_map (λ place. place + 1) o) ≡ Some q
        → ((r : ℕ) → o ≡ Some r → r < length ms) → q < suc (length ms)
    by true o h later = (let same : 0 ≡ q = cc in omega arith)
    by false None h later = absurd (cc)
    by false (Some r) h later = (let same : r + 1 ≡ q = cc in let less = later r refl in omega arith)

-- the member of a number stands at the place of it
stands_at : (ms : List MemberRow) (n q : ℕ) → place_in ms n ≡ Some q → at number n ms ≡ slice_get ms q
stands_at [] n q h = absurd (cc)
stands_at (m ∷ ms) n q h = by (nat_eq m.member n) refl (place_in ms n) h (λ r. stands_at ms n r)
  where
    by : (b : Bool) → nat_eq m.member n ≡ b → (o : Option ℕ)
        → cond b (Some 0) (option_map (λ place. place + 1) o) ≡ Some q
        → ((r : ℕ) → o ≡ Some r → at number n ms ≡ slice_get ms r)
        → cond b (Some m) (at number n ms) ≡ slice_get (m ∷ ms) q
    by true e o h later = (let same : 0 ≡ q = cc in ap (slice_get (m ∷ ms)) same)
    by false e None h later = absurd (cc)
    by false e (Some r) h later =
        (let same : r + 1 ≡ q = cc in let next : suc r ≡ q = omega arith in later r refl ∙ ap (slice_get (m ∷ ms)) next)

-- and where a member stands is its place
place_of : (ms : List MemberRow) (p : ℕ) (m : MemberRow) → Distinct number ms → slice_get ms p ≡ Some m
    → place_in ms m.member ≡ Some p
place_of [] p m apart h = absurd (cc)
place_of (x ∷ ms) zero m apart h =
    ap (λ b. cond b (Some 0) (option_map (λ place. place + 1) (place_in ms m.member)))
    (ap (λ (x : MemberRow). nat_eq x.member m.member) (same_Some x m h) ∙ number_itself m.member)
place_of (x ∷ ms) (suc p) m apart h =
    let next = place_of ms p m apart.1 h in
    ap (λ b. cond b (Some 0) (option_map (λ place. place + 1) (place_in ms m.member)))
    (ne_eqb x.member m.member (λ same.
    none-some m (sym apart.0 ∙ ap (λ n. at number n ms) same ∙ stands_at ms m.member p next ∙ h)))
    ∙ ap (option_map (λ place. place + 1)) next
    ∙ ap Some (let more : p + 1 ≡ suc p = omega arith in more)

-- ---- the seat of a member

pub seat_there : (d : Desk) (n q : ℕ) (o : Option MemberRow) → good d ≡ true → place_in d.members n ≡ Some q
    → o ≡ slice_get d.members q → seat_of d n ≡ seat_at (Some q) o
seat_there d n q o g stands is =
    (λ i. seat_at (stands i) (member_at d n))
    ∙ ap (seat_at (Some q)) (member_row d n (no_members d g) ∙ stands_at d.members n q stands ∙ sym is)

-- ---- seats

seat_stands : {X Y : Type 0} (owner : X → ℕ) (make : MemberRow → X → Y) (d : Desk) (x : X) (t : Seated Y)
    → seat owner make d x ≡ Some t → place_in d.members (owner x) ≡ Some t.place
seat_stands {Y = Y} owner make d x t h = by (place_in d.members (owner x)) (member_at d (owner x)) h
  where
    by : (o : Option ℕ) (m : Option MemberRow) → option_map (seat_with make x) (seat_at o m) ≡ Some t
        → o ≡ Some t.place
    by None m h = absurd (cc)
    by (Some p) None h = absurd (cc)
    by (Some p) (Some m) h = ap (option_map (λ (t : Seated Y). t.place)) h

pub seats_within : {X Y : Type 0} (owner : X → ℕ) (make : MemberRow → X → Y) (d : Desk) (xs : List X)
    → All (λ t. t.place < length d.members) (filter_map (seat owner make d) xs)
seats_within owner make d xs =
    All-filter_map (seat owner make d) (λ t. t.place < length d.members)
    (λ x t h. place_within d.members (owner x) t.place (seat_stands owner make d x t h)) xs

-- what sits at a member's place is what is made of what belongs to it
one_place : {X Y : Type 0} (owner : X → ℕ) (make : MemberRow → X → Y) (d : Desk) (m : MemberRow) (p : ℕ) → good d ≡ true
    → slice_get d.members p ≡ Some m → (xs : List X)
    → map (λ t. t.thing) (filter (λ t. nat_eq t.place p) (filter_map (seat owner make d) xs))
    ≡ map (make m) (filter (λ x. nat_eq (owner x) m.member) xs)
one_place {X = X} {Y = Y} owner make d m p g at_p xs =
    ap (map (λ (t : Seated Y). t.thing)) (filter-filter_map (seat owner make d) (λ t. nat_eq t.place p) mine here xs)
    ∙ made xs
  where
    mine : X → Bool
    mine x = nat_eq (owner x) m.member

    stands : place_in d.members m.member ≡ Some p
    stands = place_of d.members p m (members_distinct d g) at_p

    lives : member_at d m.member ≡ Some m
    lives = member_row d m.member (no_members d g) ∙ stands_at d.members m.member p stands ∙ at_p

    here : (x : X) (t : Seated Y) → seat owner make d x ≡ Some t → nat_eq t.place p ≡ mine x
    here x t h = by (mine x) refl
      where
        its : place_in d.members (owner x) ≡ Some t.place
        its = seat_stands owner make d x t h

        by : (b : Bool) → mine x ≡ b → nat_eq t.place p ≡ b
        by true e =
            eq-eqb t.place p (same_Some t.place p (sym its
            ∙ ap (place_in d.members) (eqb-true (owner x) m.member e)
            ∙ stands))
        by false e = ne_eqb t.place p (λ same.
            let found = stands_at d.members (owner x) p (its ∙ ap Some same) ∙ at_p in
            both_ways (mine x) e (eq-eqb (owner x) m.member (sym (found_key number (owner x) m d.members found))))

    made : (xs : List X)
        → map (λ t. t.thing) (filter_map (seat owner make d) (filter mine xs)) ≡ map (make m) (filter mine xs)
    made [] = refl
    made (x ∷ xs) = by (mine x) refl (made xs)
      where
        by : (b : Bool) → mine x ≡ b
            → map (λ t. t.thing) (filter_map (seat owner make d) (filter mine xs)) ≡ map (make m) (filter mine xs)
            → map (λ t. t.thing) (filter_map (seat owner make d) (cond b (x ∷ filter mine xs) (filter mine xs)))
            ≡ map (make m) (cond b (x ∷ filter mine xs) (filter mine xs))
        by true e rest =
            ap (λ o. map (λ (t : Seated Y). t.thing) (cons_option o (filter_map (seat owner make d) (filter mine xs))))
            ((λ i. option_map (seat_with make x) (seat_of d (eqb-true (owner x) m.member e i)))
            ∙ (λ i. option_map (seat_with make x) (seat_at (stands i) (lives i))))
            ∙ ap (λ ys. make m x ∷ ys) rest
        by false e rest = rest

map-flat_map : {A B C : Type 0} (v : B → C) (f : A → List B) (xs : List A)
    → map v (flat_map f xs) ≡ flat_map (λ x. map v (f x)) xs
map-flat_map v f [] = refl
map-flat_map v f (x ∷ xs) = map-append v (f x) (flat_map f xs) ∙ ap (λ ys. map v (f x) ++ ys) (map-flat_map v f xs)

-- place by place is member by member
in_places : {Y : Type 0} (f : ℕ → List Y) (g : MemberRow → List Y) (k : ℕ) (ms : List MemberRow)
    → ((j : ℕ) (m : MemberRow) → slice_get ms j ≡ Some m → f (k + j) ≡ g m)
    → flat_map f (range_with_len k (length ms)) ≡ flat_map g ms
in_places f g k [] h = refl
in_places f g k (m ∷ ms) h =
    (λ i. first i ++ in_places f g (k + 1) ms (λ j n e. ap f (shifted j) ∙ h (suc j) n e) i)
  where
    first : f k ≡ g m
    first = ap f (let same : k ≡ k + 0 = omega arith in same) ∙ h 0 m refl

    shifted : (j : ℕ) → (k + 1) + j ≡ k + suc j
    shifted j = omega arith

-- seats place by place are in the order of the members
pub seated_in_order : {X Y : Type 0} (owner : X → ℕ) (make : MemberRow → X → Y) (d : Desk) (xs : List X) → good d ≡ true
    → by_places (length d.members) (filter_map (seat owner make d) xs) ≡ by_members owner make d.members xs
seated_in_order {Y = Y} owner make d xs g =
    map-flat_map (λ (t : Seated Y). t.thing) (λ p. filter (λ t. nat_eq t.place p) (filter_map (seat owner make d) xs))
    (range_with_len 0 (length d.members))
    ∙ in_places
    (λ p. map (λ (t : Seated Y). t.thing) (filter (λ t. nat_eq t.place p) (filter_map (seat owner make d) xs)))
    (λ m. map (make m) (filter (λ x. nat_eq (owner x) m.member) xs)) 0 d.members (λ j m e.
    one_place owner make d m (0 + j) g (ap (slice_get d.members) (let same : 0 + j ≡ j = omega arith in same) ∙ e) xs)
