-- The first word of a text.
use Rattle.std.proofs.Common.{◌≡◌, ℕ, ◌+◌, ◌<◌, ◌≤◌, List, [], ◌∷◌, length, Some, None, refl, sym, ap, ◌∙◌, arith, eqb}
use Rattle.std.proofs.Common.{Bool, true, false, cond, Err, inl, inr}
use Rattle.std.specs.Prelude.{Option, is_some, not, ◌==◌}
use Rattle.std.specs.Borrow.{Bor}
use Rattle.std.specs.List.{slice_split, onto_first, position_or_len, before_first, after_first}
use Rattle.std.proofs.lemmas.List.Splits.{slice_split_first, slice_split_none}
use Rattle.std.proofs.lemmas.List.Sums.{fails_before_first}
use Rattle.std.proofs.lemmas.Bool.{cases_lt, lt-ltb, le-ltb, eqb-true, ne_eqb}
use Rattle.desk_text.specs.Words.{cut_of, words_of, none_left, words_in}
use Rattle.desk_text.specs.declared.fault.Fault.TheVariants.{ExtraWord}

pub cut_found : (at : ℕ) (text : List ℕ) → position_or_len (λ b. eqb b at) text < length text
    → cut_of at text ≡ Some (before_first (λ b. eqb b at) text, after_first (λ b. eqb b at) text)
cut_found at text lt = rw (lt-ltb (position_or_len (λ b. eqb b at) text) (length text) lt) refl

pub cut_none : (at : ℕ) (text : List ℕ) → length text ≤ position_or_len (λ b. eqb b at) text → cut_of at text ≡ None
cut_none at text le = rw (le-ltb (position_or_len (λ b. eqb b at) text) (length text) le) refl

pub split_cut : (at : ℕ) (text : List ℕ) (x : List ℕ × List ℕ) → Some x ≡ cut_of at text
    → slice_split (λ b. eqb b at) text ≡ x.0 ∷ slice_split (λ b. eqb b at) x.1
split_cut at text x e =
    elim (cases_lt (position_or_len (λ b. eqb b at) text) (length text)) [
      | inl lt ↦
          let same : Some x ≡ Some (before_first (λ b. eqb b at) text, after_first (λ b. eqb b at) text) =
          e ∙ cut_found at text lt in
          let is : x ≡ (before_first (λ b. eqb b at) text, after_first (λ b. eqb b at) text) = cc in
          rw is (slice_split_first (λ b. eqb b at) text 0 lt)
      | inr le ↦
          let none : Some x ≡ None = e ∙ cut_none at text le in
          cc
    ]

some_is_none : {X A : Type 0} {a b : A} (x : X) → Some x ≡ None → a ≡ b
some_is_none x e = cc

pub split_uncut : (at : ℕ) (text : List ℕ) → None ≡ cut_of at text → slice_split (λ b. eqb b at) text ≡ text ∷ []
split_uncut at text e =
    elim (cases_lt (position_or_len (λ b. eqb b at) text) (length text)) [
      | inl lt ↦
          let same : Some (before_first (λ b. eqb b at) text, after_first (λ b. eqb b at) text) ≡ None =
          sym (cut_found at text lt) ∙ sym e in
          some_is_none (before_first (λ b. eqb b at) text, after_first (λ b. eqb b at) text) same
      | inr le ↦
          slice_split_none (λ b. eqb b at) text (λ k d lt. fails_before_first (λ b. eqb b at) text k d (omega arith))
    ]

-- the words of a text with no space
pub words_uncut : (text : List ℕ) → None ≡ cut_of 32 text → words_of text ≡ text ∷ []
words_uncut text e = split_uncut 32 text e

pub words_cut : (text : List ℕ) (x : List ℕ × List ℕ) → Some x ≡ cut_of 32 text → words_of text ≡ x.0 ∷ words_of x.1
words_cut text x e = split_cut 32 text x e

-- a text has at least one part
pub parts_some : (at : ℕ) (text : List ℕ)
    → (part : List ℕ) × (parts : List (List ℕ)) × (slice_split (λ b. eqb b at) text ≡ part ∷ parts)
parts_some at [] = ([], [], refl)
parts_some at (x ∷ xs) = more (eqb x at) x (slice_split (λ b. eqb b at) xs) (parts_some at xs)
  where
    more : (b : Bool) (x : ℕ) (parts : List (List ℕ))
        → (word : List ℕ) × (words : List (List ℕ)) × (parts ≡ word ∷ words)
        → (word : List ℕ) × (words : List (List ℕ)) × (cond b ([] ∷ parts) (onto_first x parts) ≡ word ∷ words)
    more true x parts h = ([], parts, refl)
    more false x parts h = (x ∷ h.0, h.1, ap (onto_first x) h.2)

pub some_part : (at : ℕ) (text : List ℕ) → 0 < length (slice_split (λ b. eqb b at) text)
some_part at text = rw (parts_some at text).2 (omega arith)

pub none_left_some : (place : ℕ) (text : List ℕ) → none_left place (words_of text) ≡ Err (place, ExtraWord)
none_left_some place text = rw (parts_some 32 text).2 refl

-- ---- the parts between strokes: four, or another number

not_four : (at : ℕ) (text : List ℕ) (x : List ℕ × List ℕ) (n : ℕ) → Some x ≡ cut_of at text
    → (length (slice_split (λ b. eqb b at) x.1) ≡ n → ⊥) → length (slice_split (λ b. eqb b at) text) ≡ n + 1 → ⊥
not_four at text x n e h k =
    h (omega (arith, k, ap length (split_cut at text x e)))

not_many : (at : ℕ) (text : List ℕ) (n : ℕ) → None ≡ cut_of at text → 1 < n
    → length (slice_split (λ b. eqb b at) text) ≡ n → ⊥
not_many at text n e more k = absurd (omega (arith, k, ap length (split_uncut at text e)))

-- one part
pub one_part : (at : ℕ) (a : List ℕ) → None ≡ cut_of at a → length (slice_split (λ b. eqb b at) a) ≡ 4 → ⊥
one_part at a e = not_many at a 4 e (omega arith)

-- two parts
pub two_parts : (at : ℕ) (a : List ℕ) (x : List ℕ × List ℕ) → Some x ≡ cut_of at a → None ≡ cut_of at x.1
    → length (slice_split (λ b. eqb b at) a) ≡ 4 → ⊥
two_parts at a x e f = not_four at a x 3 e (not_many at x.1 3 f (omega arith))

-- three parts
pub three_parts : (at : ℕ) (a : List ℕ) (x y : List ℕ × List ℕ) → Some x ≡ cut_of at a → Some y ≡ cut_of at x.1
    → None ≡ cut_of at y.1 → length (slice_split (λ b. eqb b at) a) ≡ 4 → ⊥
three_parts at a x y e f h = not_four at a x 3 e (not_four at x.1 y 2 f (not_many at y.1 2 h (omega arith)))

-- four parts
pub four_parts : (at : ℕ) (a : List ℕ) (x y z : List ℕ × List ℕ) → Some x ≡ cut_of at a → Some y ≡ cut_of at x.1
    → Some z ≡ cut_of at y.1 → None ≡ cut_of at z.1 → slice_split (λ b. eqb b at) a ≡ x.0 ∷ y.0 ∷ z.0 ∷ z.1 ∷ []
four_parts at a x y z e f h i =
    rw (split_cut at a x e, split_cut at x.1 y f, split_cut at y.1 z h, split_uncut at z.1 i) refl

-- five parts or more
pub many_parts : (at : ℕ) (a : List ℕ) (x y z w : List ℕ × List ℕ) → Some x ≡ cut_of at a → Some y ≡ cut_of at x.1
    → Some z ≡ cut_of at y.1 → Some w ≡ cut_of at z.1 → length (slice_split (λ b. eqb b at) a) ≡ 4 → ⊥
many_parts at a x y z w e f h i =
    not_four at a x 3 e (not_four at x.1 y 2 f (not_four at y.1 z 1 h (not_none at z.1 w i)))
  where
    not_none : (at : ℕ) (text : List ℕ) (x : List ℕ × List ℕ) → Some x ≡ cut_of at text
        → length (slice_split (λ b. eqb b at) text) ≡ 1 → ⊥
    not_none at text x e k = absurd (omega (arith, k, ap length (split_cut at text x e), some_part at x.1))

-- a text is one word where none stands behind its first
pub one_word : (text word : List ℕ) (behind : Option (Bor (List ℕ))) (none : Bool)
    → words_of text ≡ word ∷ words_in behind → is_some behind ≡ not none → none ≡ (length (words_of text) == 1)
one_word text word None true e is = rw e refl
one_word text word None false e is = absurd cc
one_word text word (Some rest) true e is = absurd cc
one_word text word (Some rest) false e is =
    sym (ne_eqb (length (words_of text)) 1 (λ one. omega (arith, one, ap length e, some_part 32 rest.now)))

-- one word, and no other
pub only_one : (words : List (List ℕ)) → (length words == 1) ≡ true → (word : List ℕ) × (words ≡ word ∷ [])
only_one [] h = absurd cc
only_one (word ∷ []) h = (word, refl)
only_one (word ∷ next ∷ words) h = absurd (omega (arith, eqb-true (length (word ∷ next ∷ words)) 1 h))
