-- Texts are appended one after another.
use Rattle.std.proofs.Common.{◌≡◌, ℕ, zero, suc, map, take, drop, get_or, ◌+◌, ◌<◌, ◌≤◌, List, [], ◌∷◌, ◌++◌, length}
use Rattle.std.proofs.Common.{length-append, Result, Ok, Err, refl, sym, ap, ◌∙◌, subst, append_assoc, arith}
use Rattle.std.specs.Result.{IsErr}
use Rattle.std.specs.List.{flat_map}
use Rattle.std.proofs.lemmas.List.{append-nil}
use Rattle.bridge_stats.specs.declared.appending.LineField.{LineField}
use Rattle.bridge_stats.specs.Text.{LinePart, next_text, line_text}
use Rattle.bridge_stats.specs.inner.Said.{said, next_said}
use Rattle.std.specs.declared.alloc.AllocError.{AllocError}
use Rattle.bridge_stats.specs.inner.Growing.{TextBuffer, Grows}

-- nothing
pub grows_none : (a : TextBuffer) → Grows a a [] (Ok tt)
grows_none a = (sym (append-nil a.items), omega arith, omega arith)

-- one text and then another
pub grows_then : (a b c : TextBuffer) (s t : List ℕ) (r : Result (Unit {0}) AllocError) → Grows a b s (Ok tt)
    → Grows b c t r → Grows a c (s ++ t) r
grows_then a b c s t (Ok u) h k = (
  k.0 ∙ (ap (λ (x : List ℕ). x ++ t) h.0 ∙ append_assoc a.items s t),
  omega (arith, h.1, k.1, length-append s t),
  omega (arith, h.2, k.2),
)
grows_then a b c s t (Err e) h k = (
  s ++ k.0,
  k.1 ∙ (ap (λ (x : List ℕ). x ++ k.0) h.0 ∙ append_assoc a.items s k.0),
  omega (arith, h.1, h.2, k.2, length-append s t),
)

-- a text that is not all out is followed by none
pub grows_stop : (a b : TextBuffer) (s t : List ℕ) (e : AllocError) → Grows a b s (Err e) → Grows a b (s ++ t) (Err e)
grows_stop a b s t e h = (h.0, h.1, omega (arith, h.2, length-append s t))

pub grows_same : (a b : TextBuffer) (s t : List ℕ) (r : Result (Unit {0}) AllocError) → s ≡ t → Grows a b s r
    → Grows a b t r
grows_same a b s t r e h = subst (λ (x : List ℕ). Grows a b x r) e h

-- a refusal that was passed on
pub grows_err : (a b : TextBuffer) (text : List ℕ) (r : Result (Unit {0}) AllocError) (e : AllocError) → IsErr r
    → Grows a b text (Err e) → Grows a b text r
grows_err a b text (Ok u) e is h = absurd cc
grows_err a b text (Err x) e is h = h

-- one more of a list, each with its text
pub one_more : {X : Type 0} (f : X → List ℕ) (xs : List X) (k : ℕ) (d : X) → k < length xs
    → flat_map f (take (k + 1) xs) ≡ flat_map f (take k xs) ++ f (get_or xs k d)
one_more f [] k d lt = absurd (omega arith)
one_more f (x ∷ xs) zero d lt = append-nil (f x)
one_more f (x ∷ xs) (suc k) d lt =
    let e : suc k + 1 ≡ suc (k + 1) = omega arith in
    ap (λ (n : ℕ). flat_map f (take n (x ∷ xs))) e
    ∙ (ap (λ (t : List ℕ). f x ++ t) (one_more f xs k d (omega arith))
    ∙ sym (append_assoc (f x) (flat_map f (take k xs)) (f (get_or xs k d))))

-- those up to one, and those from there on
pub others : {X : Type 0} (f : X → List ℕ) (xs : List X) (k : ℕ)
    → flat_map f (take k xs) ++ flat_map f (drop k xs) ≡ flat_map f xs
others f xs zero = refl
others f [] (suc k) = refl
others f (x ∷ xs) (suc k) =
    append_assoc (f x) (flat_map f (take k xs)) (flat_map f (drop k xs)) ∙ ap (λ (t : List ℕ). f x ++ t) (others f xs k)

-- the texts of parts are those of what they say
pub said_texts : (fields : List LineField) → flat_map next_said fields ≡ flat_map next_text (map said fields)
said_texts [] = refl
said_texts (f ∷ fs) = ap (λ (t : List ℕ). next_said f ++ t) (said_texts fs)

-- the texts of these parts, and then of those
pub texts_then : (xs ys : List LinePart) (t : List ℕ)
    → flat_map next_text xs ++ (flat_map next_text ys ++ t) ≡ flat_map next_text (xs ++ ys) ++ t
texts_then [] ys t = refl
texts_then (x ∷ xs) ys t =
    append_assoc (next_text x) (flat_map next_text xs) (flat_map next_text ys ++ t)
    ∙ (ap (λ (s : List ℕ). next_text x ++ s) (texts_then xs ys t)
    ∙ sym (append_assoc (next_text x) (flat_map next_text (xs ++ ys)) t))

-- a line's parts may be appended one after another
pub line_halves : (first : List ℕ) (xs ys : List LinePart)
    → first ++ (flat_map next_text xs ++ (flat_map next_text ys ++ 10 ∷ [])) ≡ line_text first (xs ++ ys)
line_halves first xs ys = ap (λ (t : List ℕ). first ++ t) (texts_then xs ys (10 ∷ []))

-- also in three runs
pub line_thirds : (first : List ℕ) (xs ys zs : List LinePart)
    → first ++ (flat_map next_text xs ++ (flat_map next_text ys ++ (flat_map next_text zs ++ 10 ∷ [])))
    ≡ line_text first (xs ++ (ys ++ zs))
line_thirds first xs ys zs =
    ap (λ (t : List ℕ). first ++ (flat_map next_text xs ++ t)) (texts_then ys zs (10 ∷ []))
    ∙ line_halves first xs (ys ++ zs)
