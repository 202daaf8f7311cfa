-- What goes is found kind by kind.
use Rattle.std.specs.Prelude.{◌≡◌, ◌+◌, ◌&&◌, ◌||◌, ◌∷◌, ◌++◌, ◌⊎◌}
use Rattle.desk_edit.proofs.Words.{ℕ, nat_lt, nat_eq, Bool, true, false, not, cond, List, [], filter, inl, inr, refl}
use Rattle.desk_edit.proofs.Words.{sym, ap, ◌∙◌, arith, append-nil, eqb-true, list_any, list_all, and_parts, cases_Bool}
use Rattle.desk_edit.proofs.Words.{not-true, false_from_ne_true, filter-append, Row, Key, Kind, rank, kind_of, key_of}
use Rattle.desk_edit.proofs.Words.{has_key, same_key, names, is_of, precedes, in_order, is_in, Desk, good, rows_of}
use Rattle.desk_edit.proofs.Words.{at_each, from_each, filter_all, good_order, true_false, below_falls, plain_others}
use Rattle.desk_edit.proofs.Words.{goes_within, goes_with, is_above, can_go}
use Rattle.desk_rows.specs.declared.row.Row.TheVariants as rows
use Rattle.desk_rows.specs.declared.key.Key.TheVariants as keys
use Rattle.desk_rows.specs.declared.key.Kind.TheVariants as kinds
use Rattle.desk_edit.proofs.Lists.{any_none, in_filter, filter_none, filter_alike}
use Rattle.desk_edit.proofs.GoingLemmas.{none_goes}

-- ---- kinds of which none can go

-- a row has another key, and names none that can go
abbrev apart : Key → Row → Bool
apart key x = not (has_key key x) && list_all (λ k. not (is_above k key) && not (same_key k key)) (names x)

goes_or_apart : (key : Key) (x : Row) → (can_go (kind_of (key_of x)) (kind_of key) || apart key x) ≡ true
goes_or_apart (keys.Room n) x = refl
goes_or_apart key (rows.Room r) = refl
goes_or_apart key x = refl

no_name : (d : Desk) (key : Key) (ks : List Key)
    → list_all (λ k. not (is_above k key) && not (same_key k key)) ks ≡ true →
    list_any (λ k. list_any (λ s. has_key k s && goes_within 2 d key s) (rows_of d)) ks ≡ false
no_name d key [] h = refl
no_name d key (k ∷ ks) h = let rest = no_name d key ks in let here = none_goes d 2 key k in grind (arith, rest, here, h)

pub kind_stays : (d : Desk) (key : Key) (x : Row) → can_go (kind_of (key_of x)) (kind_of key) ≡ false
    → goes_with d key x ≡ false
kind_stays d key x h =
    let both =
    and_parts (not (has_key key x)) (list_all (λ k. not (is_above k key) && not (same_key k key)) (names x))
    (sym (ap (λ b. b || apart key x) h) ∙ goes_or_apart key x) in
    (λ i. not-true (has_key key x) both.0 i || no_name d key (names x) both.1 i)

-- the kind of a rank
abbrev kind_at : ℕ → Kind
kind_at n =
    cond (nat_eq n (rank kinds.Room)) kinds.Room
    (cond (nat_eq n (rank kinds.Member)) kinds.Member (cond (nat_eq n (rank kinds.Source)) kinds.Source
    (cond (nat_eq n (rank kinds.Slot)) kinds.Slot
    (cond (nat_eq n (rank kinds.Sub)) kinds.Sub (cond (nat_eq n (rank kinds.Mute)) kinds.Mute
    (cond (nat_eq n (rank kinds.Gain)) kinds.Gain (cond (nat_eq n (rank kinds.Pin)) kinds.Pin kinds.Floor)))))))

kind_back : (kind : Kind) → kind_at (rank kind) ≡ kind
kind_back kinds.Room = refl
kind_back _ = refl

pub its_kind : (kind : Kind) (x : Row) → is_of kind x ≡ true → kind_of (key_of x) ≡ kind
its_kind kind x e =
    sym (kind_back (kind_of (key_of x)))
    ∙ ap kind_at (eqb-true (rank (kind_of (key_of x))) (rank kind) e)
    ∙ kind_back kind

pub none_of_kind : (d : Desk) (p : Row → Bool) (kind : Kind)
    → ((x : Row) → is_in d.others x ≡ true → kind_of (key_of x) ≡ kind → p x ≡ false)
    → filter p (filter (is_of kind) d.others) ≡ []
none_of_kind d p kind each =
    filter_none p (filter (is_of kind) d.others) (any_none p (filter (is_of kind) d.others) (λ x one.
    let both = in_filter (is_of kind) d.others x one in
    each x both.0 (its_kind kind x both.1)))

pub kind_none : (d : Desk) (key : Key) (kind : Kind) → can_go kind (kind_of key) ≡ false
    → filter (goes_with d key) (filter (is_of kind) d.others) ≡ []
kind_none d key kind h =
    none_of_kind d (goes_with d key) kind (λ x one is. kind_stays d key x (ap (λ k. can_go k (kind_of key)) is ∙ h))

-- ---- rows in order, kind by kind

abbrev below : ℕ → Row → Bool
below n x = nat_lt (rank (kind_of (key_of x))) n

-- of rows in order those of the next kind stand behind those of the kinds before
next_kind : (n : ℕ) (xs : List Row) → in_order xs ≡ true
    → filter (below n) xs ++ filter (λ x. nat_eq (rank (kind_of (key_of x))) n) xs ≡ filter (below (n + 1)) xs
next_kind n [] h = refl
next_kind n (x ∷ xs) h =
    let order = and_parts (list_all (precedes x) xs) (in_order xs) h in
    let rest = next_kind n xs order.1 in
    by (cases_Bool (below n x)) rest where
      same : (a : ℕ) → nat_lt a n ≡ false → nat_eq a n ≡ nat_lt a (n + 1)
      same a e = grind (arith, e)

      by : (below n x ≡ true) ⊎ (below n x ≡ false)
          → filter (below n) xs ++ filter (λ x. nat_eq (rank (kind_of (key_of x))) n) xs ≡ filter (below (n + 1)) xs →
          filter (below n) (x ∷ xs) ++ filter (λ x. nat_eq (rank (kind_of (key_of x))) n) (x ∷ xs)
          ≡ filter (below (n + 1)) (x ∷ xs)
      by (inl e) rest = grind (arith, rest, e)
      by (inr e) rest =
          let later : (y : Row) → is_in xs y ≡ true → below n y ≡ false = λ y one. false_from_ne_true (below n y) (λ f.
          true_false (sym
          (below_falls n x y (at_each (precedes x) xs y (and_parts (list_all (precedes x) xs) (in_order xs) h).0 one) f)
          ∙ e)) in
          let none = filter_none (below n) xs (any_none (below n) xs later) in
          let alike =
          filter_alike (λ x. nat_eq (rank (kind_of (key_of x))) n) (below (n + 1)) xs
          (λ y one. same (rank (kind_of (key_of y))) (later y one)) in
          grind (arith, none, alike, e)

-- what passes of the rows of the kinds before this one
abbrev pub passed : (Row → Bool) → Desk → ℕ → List Row
passed p d n = filter p (filter (below n) d.others)

-- and with those of this kind
pub one_kind_more : (d : Desk) (p : Row → Bool) → good d ≡ true → (kind : Kind) (out more : List Row)
    → out ≡ passed p d (rank kind) → more ≡ out ++ filter p (filter (is_of kind) d.others)
    → more ≡ passed p d (rank kind + 1)
one_kind_more d p g kind out more so_far is =
    is ∙ ap (λ ys. ys ++ filter p (filter (is_of kind) d.others)) so_far
    ∙ sym (filter-append p (filter (below (rank kind)) d.others) (filter (is_of kind) d.others))
    ∙ ap (filter p) (next_kind (rank kind) d.others (good_order d g))

-- no member is among them
pub members_more : (d : Desk) (p : Row → Bool) → good d ≡ true → (out : List Row) → out ≡ passed p d (rank kinds.Member)
    → out ≡ passed p d (rank kinds.Member + 1)
members_more d p g out so_far =
    one_kind_more d p g kinds.Member out out so_far
    (sym (append-nil out) ∙ ap (λ ys. out ++ ys) (sym (none_of_kind d p kinds.Member (λ x one is.
    absurd (true_false (sym (at_each (λ r. not (is_of kinds.Member r)) d.others x (plain_others d g) one)
    ∙ ap (λ k. not (nat_eq (rank k) (rank kinds.Member))) is))))))

pub first_kind : (d : Desk) (p : Row → Bool) → [] ≡ passed p d 0
first_kind d p =
    sym (ap (filter p)
    (filter_none (below 0) d.others (any_none (below 0) d.others (λ x one. least (rank (kind_of (key_of x))))))) where
      least : (n : ℕ) → nat_lt n 0 ≡ false
      least n = grind arith

pub last_kind : (d : Desk) (p : Row → Bool) → passed p d 9 ≡ filter p d.others
last_kind d p = ap (filter p) (filter_all (below 9) d.others (from_each (below 9) d.others (λ x one. each x))) where
  each : (x : Row) → below 9 x ≡ true
  each (rows.Room r) = refl
  each x = refl
