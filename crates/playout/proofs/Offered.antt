-- One more sample, in its cell.
use Rattle.std.proofs.Common.{◌≡◌, ℕ, ℤ, zero, suc, ◌+◌, ◌<◌, ◌≤◌, Bool, true, false, cond, nat_eq, nat_lt, List, []}
use Rattle.std.proofs.Common.{◌∷◌, ◌++◌, length, drop, set, get_or, Option, None, Some, is_none, unwrap_or, refl, sym}
use Rattle.std.proofs.Common.{ap, ◌∙◌, arith, subst, ◌⊎◌, inl, inr, get_or-set_same, get_or-set_other, ◌≢◌}
use Rattle.std.proofs.Common.{length-append, length-set}
use Rattle.std.proofs.lemmas.List.{set-get_or}
use Rattle.std.proofs.lemmas.Bool.Decides.{nat_tests}
use Rattle.playout.specs.Playout.{Pair, sample_at, offer, offers}
use Rattle.playout.specs.inner.Agrees.{Agrees, filled}

pub eq_cases : (m n : ℕ) → (m ≡ n) ⊎ (m ≢ n)
eq_cases m n = elim (nat_eq m n) as (λ b. nat_eq m n ≡ b → (m ≡ n) ⊎ (m ≢ n)) [
  | true ↦ λ is. (let e : m ≡ n = grind (arith, nat_tests) in inl e)
  | false ↦ λ is.
      inr (λ same. (let e : nat_eq m n ≡ true = grind (arith, nat_tests) in let x : false ≡ true = sym is ∙ e in cc))
] refl

pub eq_yes : (m n : ℕ) → m ≡ n → nat_eq m n ≡ true
eq_yes m n h = grind (arith, nat_tests)

pub eq_no : (m n : ℕ) → m ≢ n → nat_eq m n ≡ false
eq_no m n h = grind (arith, nat_tests)

not_below : (p i : ℕ) → nat_lt (p + i) p ≡ false
not_below p i = grind (arith, nat_tests)

abbrev pub new_pair : ℕ → ℤ → Pair
new_pair place s = record { place = place; sample = s }

push_none : (pairs : List Pair) (place q : ℕ) (s : ℤ) → sample_at pairs q ≡ None
    → sample_at (pairs ++ new_pair place s ∷ []) q ≡ cond (nat_eq place q) (Some s) None
push_none [] place q s h = refl
push_none (x ∷ xs) place q s h = by (push_none xs place q s) (nat_eq x.place q) h
  where
    by : (sample_at xs q ≡ None → sample_at (xs ++ new_pair place s ∷ []) q ≡ cond (nat_eq place q) (Some s) None)
        → (b : Bool) → cond b (Some x.sample) (sample_at xs q) ≡ None
        → cond b (Some x.sample) (sample_at (xs ++ new_pair place s ∷ []) q) ≡ cond (nat_eq place q) (Some s) None
    by rec true g = cc
    by rec false g = rec g

pub push_other : (pairs : List Pair) (place q : ℕ) (s : ℤ) → place ≢ q
    → sample_at (pairs ++ new_pair place s ∷ []) q ≡ sample_at pairs q
push_other [] place q s h = ap (λ b. cond b (Some s) None) (eq_no place q h)
push_other (x ∷ xs) place q s h = ap (λ o. cond (nat_eq x.place q) (Some x.sample) o) (push_other xs place q s h)

-- a place with no sample takes it
pub offer_new : (p i : ℕ) (pairs : List Pair) (s : ℤ) → sample_at pairs (p + i) ≡ None
    → offer p pairs (p + i) s ≡ pairs ++ new_pair (p + i) s ∷ []
offer_new p i pairs s none = rw (not_below p i, none) refl

-- a place that has a sample keeps it
offer_old : (p i : ℕ) (pairs : List Pair) (s v : ℤ) → sample_at pairs (p + i) ≡ Some v → offer p pairs (p + i) s ≡ pairs
offer_old p i pairs s v some = rw (not_below p i, some) refl

new_agrees : (cells : List (Option ℤ)) (pairs : List Pair) (p i : ℕ) (s : ℤ) → i < length cells → Agrees cells pairs p
    → get_or cells i None ≡ None
    → Agrees (set cells i (Some s)) (pairs ++ new_pair (p + i) s ∷ []) p
new_agrees cells pairs p i s lt a none = record { here = here; behind = behind }
  where
    long : length (set cells i (Some s)) ≡ length cells
    long = length-set cells i (Some s)

    here : (j : ℕ) → j < length (set cells i (Some s))
        → get_or (set cells i (Some s)) j None ≡ sample_at (pairs ++ new_pair (p + i) s ∷ []) (p + j)
    here j below = elim (eq_cases i j) [
      | inl same ↦
          subst (λ (k : ℕ). get_or (set cells i (Some s)) k None ≡ sample_at (pairs ++ new_pair (p + i) s ∷ []) (p + k))
          same
          (get_or-set_same cells i (Some s) None lt
          ∙ sym (push_none pairs (p + i) (p + i) s (sym (a.here i lt) ∙ none)
          ∙ ap (λ b. cond b (Some s) None) (eq_yes (p + i) (p + i) refl)))
      | inr other ↦
          let apart : p + i ≢ p + j = λ e. other (omega (arith, e)) in
          let back : j ≢ i = λ e. other (sym e) in
          let lt2 : j < length cells = omega (arith, below, long) in
          get_or-set_other cells i j (Some s) None back ∙ a.here j lt2 ∙ sym (push_other pairs (p + i) (p + j) s apart)
    ]

    behind : (n : ℕ) → p + length (set cells i (Some s)) ≤ n → sample_at (pairs ++ new_pair (p + i) s ∷ []) n ≡ None
    behind n above =
        let apart : p + i ≢ n = λ e. absurd (omega (arith, e, above, long, lt)) in
        let le : p + length cells ≤ n = omega (arith, above, long) in
        push_other pairs (p + i) n s apart ∙ a.behind n le

-- one more sample, in its cell
pub one_offered : (cells : List (Option ℤ)) (pairs : List Pair) (p i : ℕ) (s : ℤ) → i < length cells
    → Agrees cells pairs p
    → Agrees (filled cells i s) (offer p pairs (p + i) s) p
    × (length (offer p pairs (p + i) s) ≡ length pairs + cond (is_none (get_or cells i None)) 1 0)
one_offered cells pairs p i s lt a = by (get_or cells i None) refl
  where
    by : (o : Option ℤ) → get_or cells i None ≡ o
        → Agrees (filled cells i s) (offer p pairs (p + i) s) p
        × (length (offer p pairs (p + i) s) ≡ length pairs + cond (is_none (get_or cells i None)) 1 0)
    by None none =
        let at : sample_at pairs (p + i) ≡ None = sym (a.here i lt) ∙ none in
        let more = offer_new p i pairs s at in
        let agrees : Agrees (filled cells i s) (pairs ++ new_pair (p + i) s ∷ []) p =
        subst (λ (o : Option ℤ). Agrees (set cells i (Some (unwrap_or o s))) (pairs ++ new_pair (p + i) s ∷ []) p)
        (sym none) (new_agrees cells pairs p i s lt a none) in (
          subst (λ (xs : List Pair). Agrees (filled cells i s) xs p) (sym more) agrees,
          ap length more
              ∙ length-append pairs (new_pair (p + i) s ∷ [])
              ∙ ap (λ (o : Option ℤ). length pairs + cond (is_none o) 1 0) (sym none),
        )
    by (Some v) some =
        let at : sample_at pairs (p + i) ≡ Some v = sym (a.here i lt) ∙ some in
        let same : filled cells i s ≡ cells =
        ap (λ (o : Option ℤ). set cells i (Some (unwrap_or o s))) some
        ∙ ap (set cells i) (sym some)
        ∙ set-get_or cells i None in
        let kept = offer_old p i pairs s v at in (
          subst (λ (xs : List Pair). Agrees (filled cells i s) xs p) (sym kept)
              (subst (λ (cs : List (Option ℤ)). Agrees cs pairs p) (sym same) a),
          ap length kept
              ∙ (let none_more : length pairs ≡ length pairs + 0 = omega arith in none_more)
              ∙ ap (λ (o : Option ℤ). length pairs + cond (is_none o) 1 0) (sym some),
        )

below_yes : (q p : ℕ) → q < p → nat_lt q p ≡ true
below_yes q p lt = grind (arith, nat_tests)

-- what is below the position is left out
pub below_left : (p b q : ℕ) (pairs : List Pair) (samples : List ℤ) → q + b ≡ p
    → offers p pairs q samples ≡ offers p pairs p (drop b samples)
below_left p zero q pairs samples e =
    let same : q ≡ p = omega (arith, e) in ap (λ (n : ℕ). offers p pairs n samples) same
below_left p (suc b) q pairs [] e = refl
below_left p (suc b) q pairs (s ∷ ss) e =
    let yes1 : nat_lt q p ≡ true = below_yes q p (omega (arith, e)) in
    let left : offer p pairs q s ≡ pairs = rw yes1 refl in
    ap (λ (xs : List Pair). offers p xs (q + 1) ss) left ∙ below_left p b (q + 1) pairs ss (omega (arith, e))
