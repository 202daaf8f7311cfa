-- Texts are appended one after another.
use Rattle.std.proofs.Common.{◌≡◌, ℕ, map, take, drop, get_or, ◌/◌, ◌%◌, ◌+◌, ◌<◌, ◌≤◌, List, [], ◌∷◌, ◌++◌, length}
use Rattle.std.proofs.Common.{length-append, Result, Ok, Err, refl, sym, ap, ◌∙◌, subst, append_assoc, arith}
use Rattle.std.specs.Result.{IsErr}
use Rattle.std.specs.Fmt.{decimal}
use Rattle.std.specs.List.{join_with_byte, flat_map}
use Rattle.std.proofs.lemmas.List.{append-nil, take_more, take_all, take-append-drop, map-append, flat_map_more}
use Rattle.hex.specs.Hex.{encode_with, encode_lower, lower_digits}
use Rattle.desk_text.specs.Text.{Word, word_text}
use Rattle.std.specs.declared.alloc.AllocError.{AllocError}
use Rattle.desk_text.specs.inner.Growing.{TextBuffer, Grows}

-- nothing
pub grows_none : (a : TextBuffer) → Grows a a [] (Ok tt)
grows_none a = (sym (append-nil a.items), omega arith, omega arith)

-- one text and then another
pub grows_then : (a b c : TextBuffer) (s t : List ℕ) (r : Result (Unit {0}) AllocError) → Grows a b s (Ok tt)
    → Grows b c t r → Grows a c (s ++ t) r
grows_then a b c s t (Ok u) h k = (
  k.0 ∙ (ap (λ (x : List ℕ). x ++ t) h.0 ∙ append_assoc a.items s t),
  omega (arith, h.1, k.1, length-append s t),
  omega (arith, h.2, k.2),
)
grows_then a b c s t (Err e) h k = (
  s ++ k.0,
  k.1 ∙ (ap (λ (x : List ℕ). x ++ k.0) h.0 ∙ append_assoc a.items s k.0),
  omega (arith, h.1, h.2, k.2, length-append s t),
)

-- a text that is not all out is followed by none
pub grows_stop : (a b : TextBuffer) (s t : List ℕ) (e : AllocError) → Grows a b s (Err e) → Grows a b (s ++ t) (Err e)
grows_stop a b s t e h = (h.0, h.1, omega (arith, h.2, length-append s t))

pub grows_same : (a b : TextBuffer) (s t : List ℕ) (r : Result (Unit {0}) AllocError) → s ≡ t → Grows a b s r
    → Grows a b t r
grows_same a b s t r e h = subst (λ (x : List ℕ). Grows a b x r) e h

-- a refusal that was passed on
pub grows_err : (a b : TextBuffer) (text : List ℕ) (r : Result (Unit {0}) AllocError) (e : AllocError) → IsErr r
    → Grows a b text (Err e) → Grows a b text r
grows_err a b text (Ok u) e is h = absurd cc
grows_err a b text (Err x) e is h = h

-- ---- hexadecimal

pub encode_append : (xs ys : List ℕ) → encode_lower (xs ++ ys) ≡ encode_lower xs ++ encode_lower ys
unfolding encode_with
encode_append [] ys = refl
encode_append (x ∷ xs) ys =
    ap (λ (t : List ℕ). get_or lower_digits (x / 16) 0 ∷ get_or lower_digits (x % 16) 0 ∷ t) (encode_append xs ys)

encode_one : (x : ℕ) → encode_lower (x ∷ []) ≡ get_or lower_digits (x / 16) 0 ∷ get_or lower_digits (x % 16) 0 ∷ []
unfolding encode_with
encode_one x = refl

pub encode_more : (xs : List ℕ) (k : ℕ) → k < length xs
    → encode_lower (take k xs)
    ++ (get_or lower_digits (get_or xs k 0 / 16) 0 ∷ get_or lower_digits (get_or xs k 0 % 16) 0 ∷ [])
    ≡ encode_lower (take (k + 1) xs)
encode_more xs k lt =
    ap (λ (t : List ℕ). encode_lower (take k xs) ++ t) (sym (encode_one (get_or xs k 0)))
    ∙ (sym (encode_append (take k xs) (get_or xs k 0 ∷ [])) ∙ ap encode_lower (sym (take_more xs k 0 lt)))

pub encode_rest : (xs : List ℕ) (k : ℕ) → encode_lower (take k xs) ++ encode_lower (drop k xs) ≡ encode_lower xs
encode_rest xs k = sym (encode_append (take k xs) (drop k xs)) ∙ ap encode_lower (take-append-drop k xs)

-- one more of the values that have octets
pub flat_more : {X : Type 0} (f : X → List ℕ) (xs : List X) (k : ℕ) (d : X) → k < length xs
    → encode_lower (flat_map f (take k xs)) ++ encode_lower (f (get_or xs k d))
    ≡ encode_lower (flat_map f (take (k + 1) xs))
flat_more {X} f xs k d lt =
    sym (encode_append (flat_map f (take k xs)) (f (get_or xs k d)))
    ∙ ap encode_lower (flat_map_more f [] (take k xs) (get_or xs k d)
    ∙ ap (flat_map f) (sym (take_more xs k d lt)))

flat_append : {X : Type 0} (f : X → List ℕ) (xs ys : List X) → flat_map f xs ++ flat_map f ys ≡ flat_map f (xs ++ ys)
flat_append {X} f [] ys = refl
flat_append {X} f (x ∷ xs) ys =
    append_assoc (f x) (flat_map f xs) (flat_map f ys) ∙ ap (λ (t : List ℕ). f x ++ t) (flat_append f xs ys)

-- what stands behind the first of them
pub flat_rest : {X : Type 0} (f : X → List ℕ) (xs : List X) (k : ℕ)
    → encode_lower (flat_map f (take k xs)) ++ encode_lower (flat_map f (drop k xs)) ≡ encode_lower (flat_map f xs)
flat_rest {X} f xs k =
    sym (encode_append (flat_map f (take k xs)) (flat_map f (drop k xs)))
    ∙ ap encode_lower (flat_append f (take k xs) (drop k xs) ∙ ap (flat_map f) (take-append-drop k xs))

pub encode_none : [] ≡ encode_lower []
unfolding encode_with
encode_none = refl

-- ---- a line

join_more : (w : List ℕ) (ws : List (List ℕ)) (x : List ℕ)
    → join_with_byte 32 (w ∷ ws) ++ 32 ∷ x ≡ join_with_byte 32 (w ∷ (ws ++ x ∷ []))
join_more w [] x = refl
join_more w (y ∷ ys) x =
    append_assoc w (32 ∷ join_with_byte 32 (y ∷ ys)) (32 ∷ x) ∙ ap (λ (t : List ℕ). w ++ 32 ∷ t) (join_more y ys x)

-- the words so far
abbrev pub joined : List ℕ → List Word → List ℕ
joined first words = join_with_byte 32 (first ∷ map word_text words)

pub joined_more : (first : List ℕ) (words : List Word) (w : Word)
    → joined first words ++ 32 ∷ word_text w ≡ joined first (words ++ w ∷ [])
joined_more first words w =
    join_more first (map word_text words) (word_text w)
    ∙ ap (λ (t : List (List ℕ)). join_with_byte 32 (first ∷ t)) (sym (map-append word_text words (w ∷ [])))

join_rest : (w : List ℕ) (ws vs : List (List ℕ))
    → (rest : List ℕ) × (join_with_byte 32 (w ∷ ws) ++ rest ≡ join_with_byte 32 (w ∷ (ws ++ vs)))
join_rest w [] [] = ([], append-nil w)
join_rest w [] (v ∷ vs) = (32 ∷ join_with_byte 32 (v ∷ vs), refl)
join_rest w (y ∷ ys) vs =
    let r = join_rest y ys vs in
    (r.0, append_assoc w (32 ∷ join_with_byte 32 (y ∷ ys)) r.0 ∙ ap (λ (t : List ℕ). w ++ 32 ∷ t) r.1)

-- what stands behind the first words of a line
pub joined_rest : (first : List ℕ) (words others : List Word)
    → (rest : List ℕ) × (joined first words ++ rest ≡ joined first (words ++ others))
joined_rest first words others =
    let r = join_rest first (map word_text words) (map word_text others) in
    (r.0, r.1 ∙ ap (λ (t : List (List ℕ)). join_with_byte 32 (first ∷ t)) (sym (map-append word_text words others)))

-- one more of the words that a function tells
pub line_more : {W : Type 0} (f : W → Word) (first : List ℕ) (ws : List W) (k : ℕ) (d : W) → k < length ws
    → joined first (map f (take k ws)) ++ 32 ∷ word_text (f (get_or ws k d)) ≡ joined first (map f (take (k + 1) ws))
line_more {W} f first ws k d lt =
    joined_more first (map f (take k ws)) (f (get_or ws k d))
    ∙ ap (joined first) (sym (map-append f (take k ws) (get_or ws k d ∷ [])) ∙ ap (map f) (sym (take_more ws k d lt)))

-- what stands behind them
pub line_rest : {W : Type 0} (f : W → Word) (first : List ℕ) (ws : List W) (k : ℕ)
    → (rest : List ℕ) × (joined first (map f (take k ws)) ++ rest ≡ joined first (map f ws))
line_rest {W} f first ws k =
    let r = joined_rest first (map f (take k ws)) (map f (drop k ws)) in
    (r.0, r.1 ∙ ap (joined first) (sym (map-append f (take k ws) (drop k ws)) ∙ ap (map f) (take-append-drop k ws)))

pub line_all : {W : Type 0} (f : W → Word) (first : List ℕ) (ws : List W) (k : ℕ) → length ws ≤ k
    → joined first (map f (take k ws)) ≡ joined first (map f ws)
line_all {W} f first ws k le = ap (λ (t : List W). joined first (map f t)) (take_all k ws le)
