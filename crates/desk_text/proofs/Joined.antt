-- Words without spaces, joined and cut again.
use Rattle.std.proofs.Common.{◌≡◌, ℕ, ◌<◌, ◌^◌, ◌&&◌, suc, List, [], ◌∷◌, ◌++◌, refl, ap, ◌∙◌, arith, eqb, not, Bool}
use Rattle.std.proofs.Common.{true, false, inl, inr}
use Rattle.std.specs.List.{All, list_all, join_with_byte, slice_split}
use Rattle.std.specs.Fmt.{decimal}
use Rattle.std.specs.List.{onto_first}
use Rattle.std.proofs.lemmas.List.Elements.{All-cons, All-nil, All-head, All-tail}
use Rattle.std.proofs.lemmas.Bool.{cases_Bool, eqb-false, ne_eqb}
use Rattle.desk_text.specs.Words.{Lacks}
use Rattle.desk_text.proofs.AddressLemmas.{digits_free}

-- no such octet
abbrev pub Free : ℕ → List ℕ → Type 0
Free c [] = Unit {0}
Free c (x ∷ xs) = (eqb x c ≡ false) × Free c xs

abbrev pub AllFree : ℕ → List (List ℕ) → Type 0
AllFree c [] = Unit {0}
AllFree c (w ∷ ws) = Free c w × AllFree c ws

pub free_append_all : (c : ℕ) (ws vs : List (List ℕ)) → AllFree c ws → AllFree c vs → AllFree c (ws ++ vs)
free_append_all c [] vs h k = k
free_append_all c (w ∷ ws) vs h k = (h.0, free_append_all c ws vs h.1 k)

free_all : (c : ℕ) (xs : List ℕ) → All (λ b. eqb b c ≡ false) xs → Free c xs
free_all c [] h = tt
free_all c (x ∷ xs) h = (h 0 x (omega arith), free_all c xs (λ k d lt. h (suc k) d (omega arith)))

and_both : (a b : Bool) → (a && b) ≡ true → (a ≡ true) × (b ≡ true)
and_both true b e = (refl, e)
and_both false b e = absurd cc

not_true : (a : Bool) → not a ≡ true → a ≡ false
not_true true e = absurd cc
not_true false e = refl

-- a text that is tested
pub free_test : (c : ℕ) (xs : List ℕ) → list_all (λ b. not (eqb b c)) xs ≡ true → Free c xs
free_test c [] e = tt
free_test c (x ∷ xs) e =
    let b = and_both (not (eqb x c)) (list_all (λ b. not (eqb b c)) xs) e in
    (not_true (eqb x c) b.0, free_test c xs b.1)

pub free_append : (c : ℕ) (xs ys : List ℕ) → Free c xs → Free c ys → Free c (xs ++ ys)
free_append c [] ys h k = k
free_append c (x ∷ xs) ys h k = (h.0, free_append c xs ys h.1 k)

pub free_number : (n : ℕ) → n < 2 ^ 64 → Free 32 (decimal n)
free_number n small = free_all 32 (decimal n) (digits_free 32 n (λ m. omega (arith, m.0, m.1)) small)

split_last : (c : ℕ) (xs : List ℕ) → Free c xs → slice_split (λ b. eqb b c) xs ≡ xs ∷ []
split_last c [] h = refl
split_last c (x ∷ xs) h = rw (h.0, split_last c xs h.1) refl

split_first : (c : ℕ) (xs ys : List ℕ) → Free c xs
    → slice_split (λ b. eqb b c) (xs ++ c ∷ ys) ≡ xs ∷ slice_split (λ b. eqb b c) ys
split_first c [] ys h = rw (same c) refl
  where
    same : (c : ℕ) → eqb c c ≡ true
    same c = grind arith
split_first c (x ∷ xs) ys h = rw (h.0, split_first c xs ys h.1) refl

-- parts that are joined are cut again
pub parts_joined : (c : ℕ) (w : List ℕ) (ws : List (List ℕ)) → Free c w → AllFree c ws
    → slice_split (λ b. eqb b c) (join_with_byte c (w ∷ ws)) ≡ w ∷ ws
parts_joined c w [] h k = split_last c w h
parts_joined c w (y ∷ ys) h k =
    split_first c w (join_with_byte c (y ∷ ys)) h ∙ ap (λ (t : List (List ℕ)). w ∷ t) (parts_joined c y ys k.0 k.1)

-- ---- the same, in the words of the law

pub all_free : (c : ℕ) (xs : List ℕ) → Lacks c xs → Free c xs
all_free c [] h = tt
all_free c (x ∷ xs) h = (ne_eqb x c (h 0 x (omega arith)), all_free c xs (λ k d lt. h (suc k) d (omega arith)))

all_free_words : (c : ℕ) (ws : List (List ℕ)) → All (Lacks c) ws → AllFree c ws
all_free_words c [] h = tt
all_free_words c (w ∷ ws) h =
    (all_free c w (h 0 w (omega arith)), all_free_words c ws (λ k d lt. h (suc k) d (omega arith)))

pub cut_again : (c : ℕ) (w : List ℕ) (ws : List (List ℕ)) → All (Lacks c) (w ∷ ws)
    → slice_split (λ b. eqb b c) (join_with_byte c (w ∷ ws)) ≡ w ∷ ws
cut_again c w ws h = let f = all_free_words c (w ∷ ws) h in parts_joined c w ws f.0 f.1

onto_lacks : (c x : ℕ) (parts : List (List ℕ)) → (x ≡ c → ⊥) → All (Lacks c) parts → All (Lacks c) (onto_first x parts)
onto_lacks c x [] ne h =
    All-cons (Lacks c) (x ∷ []) [] (All-cons (λ b. b ≡ c → ⊥) x [] ne (All-nil (λ b. b ≡ c → ⊥))) (All-nil (Lacks c))
onto_lacks c x (w ∷ ws) ne h =
    All-cons (Lacks c) (x ∷ w) ws (All-cons (λ b. b ≡ c → ⊥) x w ne (All-head (Lacks c) w ws h))
    (All-tail (Lacks c) w ws h)

-- no part has the octet at which the text was cut
pub parts_lack : (c : ℕ) (text : List ℕ) → All (Lacks c) (slice_split (λ b. eqb b c) text)
parts_lack c [] = All-cons (Lacks c) [] [] (All-nil (λ b. b ≡ c → ⊥)) (All-nil (Lacks c))
parts_lack c (x ∷ xs) =
    elim (cases_Bool (eqb x c)) [
      | inl is ↦
          rw is (All-cons (Lacks c) [] (slice_split (λ b. eqb b c) xs) (All-nil (λ b. b ≡ c → ⊥)) (parts_lack c xs))
      | inr isnt ↦ rw isnt (onto_lacks c x (slice_split (λ b. eqb b c) xs) (eqb-false x c isnt) (parts_lack c xs))
    ]
