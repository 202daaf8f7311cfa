-- What is in force in a history with reverts.
use Rattle.std.specs.Prelude.{◌∷◌, ◌++◌, ◌||◌, ◌<◌, ◌≤◌}
use Rattle.std.proofs.Common.{◌≡◌, ℕ, Bool, true, false, not, cond, List, [], reverse, fold, filter, nat_eq, nat_lt}
use Rattle.std.proofs.Common.{nat_le, min, take, length, refl, sym, ap, ◌∙◌, arith, eq-eqb, append-nil}
use Rattle.std.specs.List.{list_any, list_all}
use Rattle.std.proofs.lemmas.Bool.{and_parts, and_from, or_left, or_right}
use Rattle.std.proofs.lemmas.Bool.Decides.{nat_tests}
use Rattle.std.proofs.lemmas.List.{reverse-append, reverse-reverse}
use Rattle.std.proofs.lemmas.List.Elements.{filter-append}
use Rattle.std.proofs.lemmas.List.Folds.{list_all-append}
use Rattle.std.proofs.lemmas.List.Sums.{fold-append, fold_push}
use Rattle.std.proofs.Math.Nat.{min-le_left, min-le_right}
use Rattle.std.proofs.Math.Seq.{take-append_seam}
use Rattle.desk_rows.specs.Desk.{Desk}
use Rattle.desk_edit.specs.declared.command.Command.{Command}
use Rattle.desk_edit.specs.Groups.{desk_after_all}
use Rattle.desk_edit.specs.InForce.{Deed, CarriedOut, TookBack, Entry, struck_by, is_struck, from_newest, in_force}
use Rattle.desk_edit.specs.InForce.{carries, desk_with, desk_in_force, carried_out, took_back, lower, walked, stay}
use Rattle.desk_edit.specs.InForce.{falls}
use Rattle.desk_edit.specs.InForce.{numbers_rise, kept, again, is_other, is_plain}

reverse_push : {A : Type 0} (xs : List A) (x : A) → reverse (xs ++ x ∷ []) ≡ x ∷ reverse xs
reverse_push xs x = reverse-append xs (x ∷ [])

reverse_first : {A : Type 0} (x : A) (xs : List A) → reverse (x ∷ xs) ≡ reverse xs ++ x ∷ []
reverse_first x xs = reverse-append (x ∷ []) xs

-- ---- which numbers are struck is all that counts, and of these only the entries' own

abbrev Alike : List ℕ → List ℕ → List Entry → Type 0
Alike a b es = (n : ℕ) → list_any (λ e. nat_eq n e.number) es ≡ true → is_struck a n ≡ is_struck b n

more_alike : (deed : Deed) (a b : List ℕ) (es : List Entry) → Alike a b es
    → Alike (struck_by deed a) (struck_by deed b) es
more_alike (CarriedOut commands) a b es same n one = same n one
more_alike (TookBack number) a b es same n one = ap (λ s. nat_eq n number || s) (same n one)

agree : (a b : List ℕ) (es : List Entry) → Alike a b es → from_newest a es ≡ from_newest b es
agree a b [] same = refl
agree a b (e ∷ es) same =
    let behind : Alike a b es = λ n one. same n (or_right _ _ one) in
    let here : is_struck a e.number ≡ is_struck b e.number =
    same e.number (or_left _ _ (eq-eqb e.number e.number refl)) in
    let rest = agree a b es behind in
    let deeper = agree (struck_by e.deed a) (struck_by e.deed b) es (more_alike e.deed a b es behind) in
    λ i. cond (here i) (rest i) (e ∷ deeper i)

none_struck : (low n : ℕ) (s : List ℕ) → list_all (nat_le low) s ≡ true → n < low → is_struck s n ≡ false
none_struck low n [] h less = refl
none_struck low n (x ∷ s) h less = grind (arith, nat_tests, h, less, none_struck low n s)

own_below : (k n : ℕ) (es : List Entry) → list_all (λ x. nat_lt x.number k) es ≡ true
    → list_any (λ e. nat_eq n e.number) es ≡ true → n < k
own_below k n [] h one = absurd cc
own_below k n (e ∷ es) h one = grind (arith, nat_tests, h, one, own_below k n es)

-- ---- the walk back

all_lower : (a b : ℕ) (s : List ℕ) → a ≤ b → list_all (nat_le b) s ≡ true → list_all (nat_le a) s ≡ true
all_lower a b [] less h = refl
all_lower a b (x ∷ s) less h = grind (arith, nat_tests, h, less, all_lower a b s)

lower_below : (deed : Deed) (low : ℕ) → lower deed low ≤ low
lower_below (CarriedOut commands) low = omega arith
lower_below (TookBack number) low = min-le_right number low

struck_above : (deed : Deed) (low : ℕ) (s : List ℕ) → list_all (nat_le low) s ≡ true
    → list_all (nat_le (lower deed low)) (struck_by deed s) ≡ true
struck_above (CarriedOut commands) low s h = h
struck_above (TookBack number) low s h =
    let first : nat_le (min number low) number ≡ true = grind (arith, nat_tests, min-le_left number low) in
    and_from _ _ first (all_lower (min number low) low s (min-le_right number low) h)

split_step : (low : ℕ) (s : List ℕ) (e : Entry) (es : List Entry)
    → list_all (λ x. nat_lt x.number e.number) es ≡ true → list_all (nat_le low) s ≡ true
    → from_newest s es ≡ from_newest s (walked (lower e.deed low) es) ++ from_newest [] (stay (lower e.deed low) es)
    → from_newest (struck_by e.deed s) es
    ≡ from_newest (struck_by e.deed s) (walked (lower e.deed low) es) ++ from_newest [] (stay (lower e.deed low) es)
    → from_newest s (e ∷ es) ≡ from_newest s (walked low (e ∷ es)) ++ from_newest [] (stay low (e ∷ es))
split_step low s e es below h rest deeper = by (nat_lt e.number low) refl where
  by_struck : (c : Bool)
      → cond c (from_newest s es) (e ∷ from_newest (struck_by e.deed s) es)
      ≡ cond c (from_newest s (walked (lower e.deed low) es))
      (e ∷ from_newest (struck_by e.deed s) (walked (lower e.deed low) es))
      ++ from_newest [] (stay (lower e.deed low) es)
  by_struck true = rest
  by_struck false = ap (λ xs. e ∷ xs) deeper

  by : (b : Bool) → nat_lt e.number low ≡ b
      → from_newest s (e ∷ es)
      ≡ from_newest s (cond b [] (e ∷ walked (lower e.deed low) es))
      ++ from_newest [] (cond b (e ∷ es) (stay (lower e.deed low) es))
  by true k =
      agree s [] (e ∷ es) (λ n one.
      let no_higher : n ≤ e.number = grind (arith, nat_tests, one, own_below e.number n es below) in
      none_struck low n s h (grind (arith, nat_tests, k, no_higher)))
  by false k = by_struck (is_struck s e.number)

-- from the walked entries down nothing is struck from above
pub split : (low : ℕ) (s : List ℕ) (es : List Entry) → falls es ≡ true → list_all (nat_le low) s ≡ true
    → from_newest s es ≡ from_newest s (walked low es) ++ from_newest [] (stay low es)
split low s [] f h = refl
split low s (e ∷ es) f h =
    let both = and_parts (list_all (λ x. nat_lt x.number e.number) es) (falls es) f in
    split_step low s e es both.0 h
    (split (lower e.deed low) s es both.1 (all_lower (lower e.deed low) low s (lower_below e.deed low) h))
    (split (lower e.deed low) (struck_by e.deed s) es both.1 (struck_above e.deed low s h))

parts_step : (low : ℕ) (e : Entry) (es : List Entry)
    → walked (lower e.deed low) es ++ stay (lower e.deed low) es ≡ es
    → walked low (e ∷ es) ++ stay low (e ∷ es) ≡ e ∷ es
parts_step low e es rest = by (nat_lt e.number low) where
  by : (b : Bool)
      → cond b [] (e ∷ walked (lower e.deed low) es) ++ cond b (e ∷ es) (stay (lower e.deed low) es) ≡ e ∷ es
  by true = refl
  by false = ap (λ xs. e ∷ xs) rest

-- the walked entries and those that stay are all
pub both_parts : (low : ℕ) (es : List Entry) → walked low es ++ stay low es ≡ es
both_parts low [] = refl
both_parts low (e ∷ es) = parts_step low e es (both_parts (lower e.deed low) es)

-- the entries that stay are the first of all
pub kept_front : (done : List Entry) (n : ℕ) → kept n done ≡ take (length (kept n done)) done
kept_front done n =
    let up = walked n (reverse done) in
    let down = stay n (reverse done) in
    let all : reverse down ++ reverse up ≡ done =
    sym (reverse-append up down) ∙ ap reverse (both_parts n (reverse done)) ∙ reverse-reverse done in
    sym (take-append_seam (reverse down) (reverse up)) ∙ ap (take (length (reverse down))) all

-- ---- one more entry

in_force_more : (done : List Entry) (e : Entry)
    → in_force (done ++ e ∷ []) ≡ reverse (from_newest (struck_by e.deed []) (reverse done)) ++ e ∷ []
in_force_more done e =
    ap (λ es. reverse (from_newest [] es)) (reverse_push done e)
    ∙ reverse_first e (from_newest (struck_by e.deed []) (reverse done))

pub carried_on : (start : Desk) (done : List Entry) (own : ℕ) (commands : List Command)
    → desk_in_force start (done ++ carried_out own commands ∷ []) ≡ desk_after_all (desk_in_force start done) commands
carried_on start done own commands =
    ap (fold desk_with start) (in_force_more done (carried_out own commands))
    ∙ fold_push desk_with start (in_force done) (carried_out own commands)

-- a revert carries nothing out itself
taken : (start : Desk) (done : List Entry) (own n : ℕ)
    → desk_in_force start (done ++ took_back own n ∷ [])
    ≡ fold desk_with start (reverse (from_newest (n ∷ []) (reverse done)))
taken start done own n =
    ap (fold desk_with start) (in_force_more done (took_back own n))
    ∙ fold_push desk_with start (reverse (from_newest (n ∷ []) (reverse done))) (took_back own n)

-- a revert's desk is that of the entries that stay, with those in force behind them carried out again
pub planned : (start : Desk) (done : List Entry) (own n : ℕ) → numbers_rise done ≡ true
    → desk_in_force start (done ++ took_back own n ∷ [])
    ≡ fold desk_with (desk_in_force start (kept n done)) (again n done)
planned start done own n rise =
    let es = reverse done in
    let up = from_newest (n ∷ []) (walked n es) in
    let down = from_newest [] (stay n es) in
    let least : list_all (nat_le n) (n ∷ []) ≡ true = grind (arith, nat_tests) in
    taken start done own n
    ∙ ap (λ xs. fold desk_with start (reverse xs)) (split n (n ∷ []) es rise least)
    ∙ ap (fold desk_with start) (reverse-append up down)
    ∙ fold-append desk_with start (reverse down) (reverse up)
    ∙ ap (λ xs. fold desk_with (fold desk_with start (reverse (from_newest [] xs))) (reverse up))
    (sym (reverse-reverse (stay n es)))

-- ---- laws

-- a history without reverts is in force as a whole
all_in_force : (es : List Entry) → list_all (λ e. carries e.deed) es ≡ true → from_newest [] es ≡ es
all_in_force [] h = refl
all_in_force (e ∷ es) h =
    let both = and_parts (carries e.deed) (list_all (λ x. carries x.deed) es) h in
    ap (λ xs. e ∷ xs) (ap (λ s. from_newest s es) (nothing_more e.deed both.0) ∙ all_in_force es both.1) where
      nothing_more : (deed : Deed) → carries deed ≡ true → struck_by deed [] ≡ []
      nothing_more (CarriedOut commands) k = refl
      nothing_more (TookBack number) k = absurd cc

all_turned : {X : Type 0} (p : X → Bool) (xs : List X) → list_all p xs ≡ true → list_all p (reverse xs) ≡ true
all_turned p [] h = refl
all_turned p (x ∷ xs) h =
    let both = and_parts (p x) (list_all p xs) h in
    ap (list_all p) (reverse_first x xs)
    ∙ list_all-append p (reverse xs) (x ∷ [])
    ∙ and_from _ _ (all_turned p xs both.1) (and_from _ _ both.0 refl)

pub no_reverts : (done : List Entry) → list_all (λ e. carries e.deed) done ≡ true → in_force done ≡ done
no_reverts done h =
    ap reverse (all_in_force (reverse done) (all_turned (λ e. carries e.deed) done h)) ∙ reverse-reverse done

-- taking the newest call back gives the desk before it
pub newest_back : (start : Desk) (done : List Entry) (e : Entry) (own : ℕ) → numbers_rise (done ++ e ∷ []) ≡ true
    → desk_in_force start ((done ++ e ∷ []) ++ took_back own e.number ∷ []) ≡ desk_in_force start done
newest_back start done e own rise =
    let es = reverse done in
    let fall : falls (e ∷ es) ≡ true = ap falls (sym (reverse_push done e)) ∙ rise in
    let below = (and_parts (list_all (λ x. nat_lt x.number e.number) es) (falls es) fall).0 in
    let own_struck : is_struck (e.number ∷ []) e.number ≡ true = or_left _ _ (eq-eqb e.number e.number refl) in
    taken start (done ++ e ∷ []) own e.number
    ∙ ap (λ xs. fold desk_with start (reverse (from_newest (e.number ∷ []) xs))) (reverse_push done e)
    ∙ ap (λ b. fold desk_with start (reverse (cond b (from_newest (e.number ∷ []) es)
    (e ∷ from_newest (struck_by e.deed (e.number ∷ [])) es)))) own_struck
    ∙ ap (λ xs. fold desk_with start (reverse xs))
    (agree (e.number ∷ []) [] es (λ n one.
    none_struck e.number n (e.number ∷ []) (grind (arith, nat_tests)) (own_below e.number n es below one)))

two : (start : Desk) (done : List Entry) (v w a b : ℕ) → nat_eq v b ≡ false
    → desk_in_force start ((done ++ took_back v a ∷ []) ++ took_back w b ∷ [])
    ≡ fold desk_with start (reverse (from_newest (a ∷ b ∷ []) (reverse done)))
two start done v w a b other =
    taken start (done ++ took_back v a ∷ []) w b
    ∙ ap (λ xs. fold desk_with start (reverse (from_newest (b ∷ []) xs))) (reverse_push done (took_back v a))
    ∙ ap (λ c. fold desk_with start (reverse (cond c (from_newest (b ∷ []) (reverse done))
    (took_back v a ∷ from_newest (a ∷ b ∷ []) (reverse done))))) struck
    ∙ ap (fold desk_with start) (reverse_first (took_back v a) (from_newest (a ∷ b ∷ []) (reverse done)))
    ∙ fold_push desk_with start (reverse (from_newest (a ∷ b ∷ []) (reverse done))) (took_back v a) where
      struck : is_struck (b ∷ []) v ≡ false
      struck = grind (arith, other)

-- two reverts, of calls that are not each other, lead to one desk in both orders
pub commute : (start : Desk) (done : List Entry) (v w a b : ℕ) → nat_eq v a ≡ false → nat_eq v b ≡ false
    → desk_in_force start ((done ++ took_back v a ∷ []) ++ took_back w b ∷ [])
    ≡ desk_in_force start ((done ++ took_back v b ∷ []) ++ took_back w a ∷ [])
commute start done v w a b not_a not_b =
    two start done v w a b not_b
    ∙ ap (λ xs. fold desk_with start (reverse xs))
    (agree (a ∷ b ∷ []) (b ∷ a ∷ []) (reverse done) (λ n one. turned (nat_eq n a) (nat_eq n b)))
    ∙ sym (two start done v w b a not_a) where
      turned : (x y : Bool) → (x || (y || false)) ≡ (y || (x || false))
      turned x y = grind arith

-- ---- as if the call had never been made

unstruck : (deed : Deed) (s : List ℕ) → carries deed ≡ true → struck_by deed s ≡ s
unstruck (CarriedOut commands) s k = refl
unstruck (TookBack number) s k = absurd cc

turned : (deed : Deed) (n : ℕ) (s : List ℕ) (es : List Entry)
    → from_newest (struck_by deed (n ∷ s)) es ≡ from_newest (n ∷ struck_by deed s) es
turned (CarriedOut commands) n s es = refl
turned (TookBack number) n s es =
    agree (number ∷ n ∷ s) (n ∷ number ∷ s) es
    (λ k one. exchanged (nat_eq k number) (nat_eq k n) (is_struck s k)) where
      exchanged : (x y z : Bool) → (x || (y || z)) ≡ (y || (x || z))
      exchanged x y z = grind arith

out_step : (n : ℕ) (s : List ℕ) (e : Entry) (es : List Entry) → is_plain n e ≡ true
    → from_newest (n ∷ s) es ≡ filter (is_other n) (from_newest s es)
    → from_newest (n ∷ struck_by e.deed s) es ≡ filter (is_other n) (from_newest (struck_by e.deed s) es)
    → from_newest (n ∷ s) (e ∷ es) ≡ filter (is_other n) (from_newest s (e ∷ es))
out_step n s e es plain rest deeper = by (nat_eq e.number n) (is_struck s e.number) refl where
  by : (b c : Bool) → nat_eq e.number n ≡ b
      → cond (b || c) (from_newest (n ∷ s) es) (e ∷ from_newest (struck_by e.deed (n ∷ s)) es)
      ≡ filter (is_other n) (cond c (from_newest s es) (e ∷ from_newest (struck_by e.deed s) es))
  by true true k = rest
  by true false k =
      let own : carries e.deed ≡ true = sym (ap (λ b. not b || carries e.deed) k) ∙ plain in
      let left = filter (is_other n) (from_newest (struck_by e.deed s) es) in
      rest
      ∙ sym (ap (λ b. cond (not b) (e ∷ left) left) k
      ∙ ap (λ t. filter (is_other n) (from_newest t es)) (unstruck e.deed s own))
  by false true k = rest
  by false false k =
      let left = filter (is_other n) (from_newest (struck_by e.deed s) es) in
      ap (λ xs. e ∷ xs) (turned e.deed n s es ∙ deeper) ∙ sym (ap (λ b. cond (not b) (e ∷ left) left) k)

left_out : (n : ℕ) (s : List ℕ) (es : List Entry) → list_all (is_plain n) es ≡ true
    → from_newest (n ∷ s) es ≡ filter (is_other n) (from_newest s es)
left_out n s [] h = refl
left_out n s (e ∷ es) h =
    let both = and_parts (is_plain n e) (list_all (is_plain n) es) h in
    out_step n s e es both.0 (left_out n s es both.1) (left_out n (struck_by e.deed s) es both.1)

filter_turned : {X : Type 0} (p : X → Bool) (xs : List X) → filter p (reverse xs) ≡ reverse (filter p xs)
filter_turned p [] = refl
filter_turned p (x ∷ xs) =
    ap (filter p) (reverse_first x xs)
    ∙ filter-append p (reverse xs) (x ∷ [])
    ∙ ap (λ ys. ys ++ filter p (x ∷ [])) (filter_turned p xs)
    ∙ by (p x) where
      by : (b : Bool) → reverse (filter p xs) ++ cond b (x ∷ []) [] ≡ reverse (cond b (x ∷ filter p xs) (filter p xs))
      by true = sym (reverse_first x (filter p xs))
      by false = append-nil (reverse (filter p xs))

-- where the call carried commands out, its revert gives the desk of the others in force
pub never_made : (start : Desk) (done : List Entry) (own n : ℕ) → list_all (is_plain n) done ≡ true
    → desk_in_force start (done ++ took_back own n ∷ [])
    ≡ fold desk_with start (filter (is_other n) (in_force done))
never_made start done own n h =
    taken start done own n
    ∙ ap (λ xs. fold desk_with start (reverse xs))
    (left_out n [] (reverse done) (all_turned (is_plain n) done h))
    ∙ ap (fold desk_with start) (sym (filter_turned (is_other n) (from_newest [] (reverse done))))
