-- A list of edits turned in its own memory.
use Rattle.std.proofs.Common.{◌≡◌, ℕ, ◌+◌, ◌-◌, ◌<◌, List, [], ◌∷◌, ◌++◌, map, reverse, take, drop, length, refl, sym}
use Rattle.std.proofs.Common.{ap, ◌∙◌, get_or, arith, append_assoc, length-append, length-drop, drop-cons, add-one}
use Rattle.std.specs.List.{insert}
use Rattle.std.proofs.lemmas.List.{take_more, reverse-reverse}
use Rattle.undo_log.specs.Lists.{inverses}
use Rattle.undo_log.specs.laws.ListLaws.{reverse_push, reverse_front}

length_inverses : {E : Type 0} (inverse : E → E) (es : List E) → length (inverses inverse es) ≡ length es
length_inverses inverse [] = refl
length_inverses inverse (e ∷ es) =
    let rest = length_inverses inverse es in
    let shape = ap length (reverse_front (inverse e) (map inverse es)) in
    omega (arith, rest, shape, length-append (inverses inverse es) (inverse e ∷ []))

same_ends : {A : Type 0} (xs ys : List A) (x y : A) → xs ++ x ∷ [] ≡ ys ++ y ∷ [] → (xs ≡ ys) × (x ≡ y)
same_ends xs ys x y e =
    let turned : x ∷ reverse xs ≡ y ∷ reverse ys = sym (reverse_push xs x) ∙ ap reverse e ∙ reverse_push ys y in
    let rest : reverse xs ≡ reverse ys = cc in
    let first : x ≡ y = cc in (sym (reverse-reverse xs) ∙ ap reverse rest ∙ reverse-reverse ys, first)

insert_after : {A : Type 0} (xs ys : List A) (y : A) → insert (xs ++ ys) (length xs) y ≡ xs ++ y ∷ ys
insert_after [] ys y = refl
insert_after (x ∷ xs) ys y =
    let e : insert (xs ++ ys) (length xs) y ≡ xs ++ y ∷ ys = insert_after xs ys y in ap (λ zs. x ∷ zs) e

-- the last of what is left is popped, inverted and put behind those that were
pub turn_more : {E : Type 0} (inverse : E → E) (es items rest : List E) (k m : ℕ) (e : E) →
    m + 1 ≡ length es - k → k < length es → items ≡ inverses inverse (drop (m + 1) es) ++ take (m + 1) es
    → items ≡ rest ++ e ∷ [] →
    insert rest k (inverse e) ≡ inverses inverse (drop m es) ++ take m es
turn_more inverse es items rest k m e is l so_far popped =
    let a = inverses inverse (drop (m + 1) es) in
    let inside : m < length es = omega arith in
    let last : take (m + 1) es ≡ take m es ++ get_or es m e ∷ [] = take_more es m e inside in
    let whole : rest ++ e ∷ [] ≡ (a ++ take m es) ++ get_or es m e ∷ [] =
    sym popped ∙ so_far ∙ ap (λ xs. a ++ xs) last ∙ sym (append_assoc a (take m es) (get_or es m e ∷ [])) in
    let ends = same_ends rest (a ++ take m es) e (get_or es m e) whole in
    let count : k ≡ length a = omega (arith, length_inverses inverse (drop (m + 1) es), length-drop (m + 1) es) in
    let next : drop m es ≡ get_or es m e ∷ drop (m + 1) es =
    drop-cons es m e inside ∙ ap (λ n. get_or es m e ∷ drop n es) (sym (add-one m)) in
    let more : inverses inverse (drop m es) ≡ a ++ inverse e ∷ [] =
    ap (inverses inverse) next
    ∙ reverse_front (inverse (get_or es m e)) (map inverse (drop (m + 1) es))
    ∙ ap (λ d. a ++ inverse d ∷ []) (sym ends.1) in
    (λ i. insert (ends.0 i) (count i) (inverse e)) ∙ insert_after a (take m es) (inverse e)
    ∙ sym (append_assoc a (inverse e ∷ []) (take m es)) ∙ ap (λ xs. xs ++ take m es) (sym more)
