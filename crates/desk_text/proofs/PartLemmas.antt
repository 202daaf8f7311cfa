-- A text's words, cut at each `/`.
use Rattle.std.proofs.Common.{◌≡◌, ℕ, zero, suc, ◌+◌, ◌-◌, ◌<◌, ◌≤◌, List, [], ◌∷◌, ◌++◌, length, take, drop, Bool}
use Rattle.std.proofs.Common.{true, false, cond, Option, Some, None, refl, sym, ap, ◌∙◌, append_assoc, arith}
use Rattle.std.specs.Borrow.{Bor}
use Rattle.std.specs.List.{All, slice_split, onto_first, join_with_byte}
use Rattle.std.proofs.lemmas.Grind.{common_steps}
use Rattle.std.proofs.lemmas.List.{length-append, length-drop, take-append-drop, drop-drop}
use Rattle.std.proofs.lemmas.List.Elements.{All-push, All-take}
use Rattle.std.proofs.lemmas.List.Splits.{join_with_byte-slice_split, slice_split_at, slice_split_none}
use Rattle.std.proofs.Math.Seq.{take-append_seam, drop-append-add}
use Rattle.desk_text.specs.Words.{words_of, Lacks, words_in, size_of}
use Rattle.std.proofs.lemmas.Slice.Eq.{bytes_eq-Decides}
use Rattle.desk_text.specs.Calls.{slash, is_slash}
use Rattle.desk_text.proofs.Cuts.{some_part}
use Rattle.desk_text.proofs.Joined.{cut_again, parts_lack}

-- the value of `&xs[i..]`
pub tail_is : (i : ℕ) (xs : List ℕ) → take (length xs - i) (drop i xs) ≡ drop i xs
tail_is i xs = grind (arith, common_steps)

-- the words so far, of which none is a `/`, and behind them those that begin at this octet
pub record Walks (text : List ℕ) (count at : ℕ) : Type 0 where
  pub next : drop count (words_of text) ≡ words_of (drop at text)
  pub plain : All (λ w. is_slash w ≡ false) (take count (words_of text))
  pub small : count ≤ at
  pub inside : at ≤ length text

-- a list has at least one part
pub some_parts : {X : Type 0} (p : X → Bool) (xs : List X)
    → (part : List X) × (parts : List (List X)) × (slice_split p xs ≡ part ∷ parts)
some_parts p [] = ([], [], refl)
some_parts {X} p (x ∷ xs) = more (p x) x (slice_split p xs) (some_parts p xs)
  where
    more : (b : Bool) (x : X) (parts : List (List X))
        → (word : List X) × (words : List (List X)) × (parts ≡ word ∷ words)
        → (word : List X) × (words : List (List X)) × (cond b ([] ∷ parts) (onto_first x parts) ≡ word ∷ words)
    more true x parts h = ([], parts, refl)
    more false x parts h = (x ∷ h.0, h.1, ap (onto_first x) h.2)

-- ---- texts and their words

join_seam : (c : ℕ) (fs ts : List (List ℕ)) → 0 < length fs → 0 < length ts
    → join_with_byte c (fs ++ ts) ≡ join_with_byte c fs ++ c ∷ join_with_byte c ts
join_seam c [] ts some more = absurd (omega arith)
join_seam c (f ∷ fs) [] some more = absurd (omega arith)
join_seam c (f ∷ []) (t ∷ ts) some more = refl
join_seam c (f ∷ g ∷ fs) (t ∷ ts) some more =
    ap (λ (xs : List ℕ). f ++ c ∷ xs) (join_seam c (g ∷ fs) (t ∷ ts) (omega arith) more)
    ∙ sym (append_assoc f (c ∷ join_with_byte c (g ∷ fs)) (c ∷ join_with_byte c (t ∷ ts)))

cut_some : (fs : List (List ℕ)) → 0 < length fs → All (Lacks 32) fs → words_of (join_with_byte 32 fs) ≡ fs
cut_some [] some lack = absurd (omega arith)
cut_some (f ∷ fs) some lack = cut_again 32 f fs lack

-- the words before a place stand before it
seam : (text : List ℕ) (count at : ℕ) → 0 < length (take count (words_of text))
    → drop count (words_of text) ≡ words_of (drop at text)
    → text ≡ join_with_byte 32 (take count (words_of text)) ++ 32 ∷ drop at text
seam text count at some next =
    let fs = take count (words_of text) in
    sym (join_with_byte-slice_split 32 text)
    ∙ (ap (join_with_byte 32)
    (sym (take-append-drop count (words_of text)) ∙ ap (λ (ts : List (List ℕ)). fs ++ ts) next)
    ∙ (join_seam 32 fs (words_of (drop at text)) some (some_part 32 (drop at text))
    ∙ ap (λ (xs : List ℕ). join_with_byte 32 fs ++ 32 ∷ xs) (join_with_byte-slice_split 32 (drop at text))))

take_seam : (text fs rest : List ℕ) (n : ℕ) → text ≡ fs ++ 32 ∷ rest → n ≡ length fs → take n text ≡ fs
take_seam text fs rest n is size = rw (is, size) (take-append_seam fs (32 ∷ rest))

some_front : (ws : List (List ℕ)) (count : ℕ) → 0 < count → 0 < length ws → 0 < length (take count ws)
some_front [] count some more = absurd (omega arith)
some_front (w ∷ ws) zero some more = absurd (omega arith)
some_front (w ∷ ws) (suc count) some more = omega arith

pub words_front : (text : List ℕ) (count at : ℕ) → 0 < count → drop count (words_of text) ≡ words_of (drop at text)
    → at ≤ length text → words_of (take (at - 1) text) ≡ take count (words_of text)
words_front text count at some next inside =
    let fs = take count (words_of text) in
    let more = some_front (words_of text) count some (some_part 32 text) in
    let is = seam text count at more next in
    let size : at - 1 ≡ length (join_with_byte 32 fs) =
    omega
    (arith, ap length is, length-append (join_with_byte 32 fs) (32 ∷ drop at text), length-drop at text, inside) in
    ap words_of (take_seam text (join_with_byte 32 fs) (drop at text) (at - 1) is size)
    ∙ cut_some fs more (All-take (Lacks 32) count (words_of text) (parts_lack 32 text))

-- ---- one word more

front_more : {X : Type 0} (n : ℕ) (xs : List X) (x : X) (rest : List X) → drop n xs ≡ x ∷ rest
    → (take (n + 1) xs ≡ take n xs ++ x ∷ []) × (length (take n xs) ≡ n)
front_more zero [] x rest e = absurd cc
front_more zero (y ∷ ys) x rest e = let is : y ≡ x = cc in (ap (λ z. z ∷ []) is, refl)
front_more (suc n) [] x rest e = absurd cc
front_more {X} (suc n) (y ∷ ys) x rest e =
    let h = front_more n ys x rest e in
    let more : suc n + 1 ≡ suc (n + 1) = omega arith in
    (ap (λ (k : ℕ). take k (y ∷ ys)) more ∙ ap (λ (zs : List X). y ∷ zs) h.0, ap suc h.1)

-- a word and those behind it
word_text : (text word : List ℕ) (rest : List ℕ) → words_of text ≡ word ∷ words_of rest → text ≡ word ++ 32 ∷ rest
word_text text word rest e =
    sym (join_with_byte-slice_split 32 text)
    ∙ (ap (join_with_byte 32) e
    ∙ (join_seam 32 (word ∷ []) (words_of rest) (omega arith) (some_part 32 rest)
    ∙ ap (λ (xs : List ℕ). word ++ 32 ∷ xs) (join_with_byte-slice_split 32 rest)))

last_text : (text word : List ℕ) → words_of text ≡ word ∷ [] → text ≡ word
last_text text word e = sym (join_with_byte-slice_split 32 text) ∙ ap (join_with_byte 32) e

-- a word takes its octets, and a space where another is behind it
pub word_size : (text word : List ℕ) (rest : Option (Bor (List ℕ))) → words_of text ≡ word ∷ words_in rest
    → length text ≡ length word + size_of rest
word_size text word None e = omega (arith, ap length (last_text text word e))
word_size text word (Some rest) e =
    omega (arith, ap length (word_text text word rest.now e), length-append word (32 ∷ rest.now))

-- a word that is no `/`
pub goes_on : (text : List ℕ) (count at : ℕ) (word rest : List ℕ) → Walks text count at
    → words_of (drop at text) ≡ word ∷ words_of rest → is_slash word ≡ false
    → Walks text (count + 1) (at + length word + 1)
goes_on text count at word rest walks e isnt =
    let front = front_more count (words_of text) word (words_of rest) (walks.next ∙ e) in
    let is = word_text (drop at text) word rest e in
    let behind : drop (at + length word + 1) text ≡ rest =
    (let n : at + length word + 1 ≡ at + (length word + 1) = omega arith in
    rw n (sym (drop-drop (length word + 1) at text)
    ∙ (ap (drop (length word + 1)) is ∙ drop-append-add word (32 ∷ rest) 1))) in
    record {
      next = sym (drop-drop 1 count (words_of text)) ∙ (ap (drop 1) (walks.next ∙ e) ∙ ap words_of (sym behind));
      plain = rw front.0 (All-push (λ w. is_slash w ≡ false) (take count (words_of text)) word walks.plain isnt);
      small = omega (arith, walks.small);
      inside = omega (arith, walks.inside, length-drop at text, ap length is, length-append word (32 ∷ rest));
    }

-- ---- the end of a part

all_words : (text : List ℕ) (count at : ℕ) (word : List ℕ) (rest : List (List ℕ)) → Walks text count at
    → words_of (drop at text) ≡ word ∷ rest → words_of text ≡ take count (words_of text) ++ word ∷ rest
all_words text count at word rest walks e =
    sym (take-append-drop count (words_of text))
    ∙ ap (λ (ts : List (List ℕ)). take count (words_of text) ++ ts) (walks.next ∙ e)

-- a `/` ends it
pub slash_ends : (text : List ℕ) (count at : ℕ) (word : List ℕ) (rest : List (List ℕ)) → Walks text count at
    → words_of (drop at text) ≡ word ∷ rest → is_slash word ≡ true
    → (slice_split is_slash (words_of text) ≡ take count (words_of text) ∷ slice_split is_slash rest)
    × (length (take count (words_of text)) ≡ count)
slash_ends text count at word rest walks e is = (
  ap (slice_split is_slash) (all_words text count at word rest walks e)
      ∙ slice_split_at is_slash (take count (words_of text)) word rest walks.plain is,
  (front_more count (words_of text) word rest (walks.next ∙ e)).1,
)

-- the last word ends it
pub text_ends : (text : List ℕ) (count at : ℕ) (word : List ℕ) → Walks text count at
    → words_of (drop at text) ≡ word ∷ [] → is_slash word ≡ false
    → (slice_split is_slash (words_of text) ≡ words_of text ∷ []) × (count + 1 ≡ length (words_of text))
text_ends text count at word walks e isnt =
    let front = front_more count (words_of text) word [] (walks.next ∙ e) in
    let all = all_words text count at word [] walks e in (
      slice_split_none is_slash (words_of text)
          (rw all (All-push (λ w. is_slash w ≡ false) (take count (words_of text)) word walks.plain isnt)),
      omega (arith, front.1, ap length all, length-append (take count (words_of text)) (word ∷ [])),
    )

-- a `/` takes an octet
pub slash_size : (text : List ℕ) (count at : ℕ) (word : List ℕ) (rest : Option (Bor (List ℕ))) → Walks text count at
    → words_of (drop at text) ≡ word ∷ words_in rest → is_slash word ≡ true
    → count + (size_of rest + 2) ≤ length text + 1
slash_size text count at word rest walks e is =
    let one : length word ≡ 1 = ap length ((bytes_eq-Decides word slash).0 is) in
    omega (arith, one, walks.small, walks.inside, length-drop at text, word_size (drop at text) word rest e)
