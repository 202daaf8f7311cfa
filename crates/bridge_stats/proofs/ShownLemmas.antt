-- Rows so far, and those to come.
use Rattle.std.proofs.Common.{◌≡◌, ◌∙◌, List, [], ◌∷◌, ◌++◌, map, sym, ap, append_assoc}
use Rattle.std.proofs.lemmas.List.{map-append}

-- one more row was pushed, for the next one that was to come
pub next_row : {X Y Z : Type 0} (f : X → Z) (g : Y → Z) (rows new : List X) (row : X) (next : Y) (from rest : List Y)
    (all : List Z) → new ≡ rows ++ row ∷ [] → f row ≡ g next → from ≡ next ∷ rest → map f rows ++ map g from ≡ all
    → map f new ++ map g rest ≡ all
next_row {X} {Y} {Z} f g rows new row next from rest all pushed same step so_far =
    ap (λ (l : List X). map f l ++ map g rest) pushed
    ∙ (ap (λ (l : List Z). l ++ map g rest) (map-append f rows (row ∷ []))
    ∙ (append_assoc (map f rows) (f row ∷ []) (map g rest)
    ∙ (ap (λ (z : Z). map f rows ++ z ∷ map g rest) same
    ∙ (ap (λ (l : List Y). map f rows ++ map g l) (sym step) ∙ so_far))))
