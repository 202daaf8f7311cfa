-- What is read of rows one by one, and steps one behind another.
use Rattle.std.proofs.Common.{◌≡◌, ◌<◌, ◌+◌, ℕ, List, [], ◌∷◌, ◌++◌, length, take, drop, get_or, Option, Some, None}
use Rattle.std.proofs.Common.{refl, ap, sym, subst, ◌∙◌, append_assoc}
use Rattle.std.specs.Prelude.{filter_map, option_to_list}
use Rattle.std.specs.Option.{option_and_then}
use Rattle.std.specs.List.{FoldsTo, cons_option}
use Rattle.std.proofs.lemmas.List.{take_more, drop_more, take-append-drop, append-nil}
use Rattle.std.proofs.lemmas.List.Elements.{filter_map-append}

-- first these steps, then those
pub folds_both : {P A : Type 0} (R : P → A → P → Type 0) (p : P) (xs : List A) (q : P) (ys : List A) (r : P)
    → FoldsTo R p xs q → FoldsTo R q ys r → FoldsTo R p (xs ++ ys) r
folds_both R p [] q ys r e h = subst (λ x. FoldsTo R x ys r) (sym e) h
folds_both R p (x ∷ xs) q ys r f h = (f.0, f.1, folds_both R f.0 xs q ys r f.2 h)

-- what is read of a part
pub read_of_part : {X Y Z : Type 0} (f : X → Option Y) (g : Y → Option Z) (xs : List X)
    → filter_map g (filter_map f xs) ≡ filter_map (λ x. option_and_then g (f x)) xs
read_of_part f g [] = refl
read_of_part {X} {Y} {Z} f g (x ∷ xs) = by (f x) (read_of_part f g xs)
  where
    rest : List Z
    rest = filter_map (λ y. option_and_then g (f y)) xs

    by : (o : Option Y) → filter_map g (filter_map f xs) ≡ rest
        → filter_map g (cons_option o (filter_map f xs)) ≡ cons_option (option_and_then g o) rest
    by None k = k
    by (Some y) k = ap (cons_option (g y)) k

one_read : {Y : Type 0} (o : Option Y) (ys : List Y) → cons_option o ys ≡ option_to_list o ++ ys
one_read None ys = refl
one_read (Some y) ys = refl

-- what is read of the rows so far, of the next one, and of the others
pub read_more : {X Y : Type 0} (f : X → Option Y) (xs : List X) (i : ℕ) (d : X) → i < length xs
    → filter_map f (take (i + 1) xs) ≡ filter_map f (take i xs) ++ option_to_list (f (get_or xs i d))
read_more {X} f xs i d low =
    let x : X = get_or xs i d in
    ap (filter_map f) (take_more xs i d low)
    ∙ (filter_map-append f (take i xs) (x ∷ [])
    ∙ ap (λ l. filter_map f (take i xs) ++ l) (one_read (f x) [] ∙ append-nil (option_to_list (f x))))

pub read_parts : {X Y : Type 0} (f : X → Option Y) (xs : List X) (i : ℕ) (d : X) → i < length xs
    → filter_map f xs
    ≡ filter_map f (take i xs) ++ (option_to_list (f (get_or xs i d)) ++ filter_map f (drop (i + 1) xs))
read_parts {X} f xs i d low =
    let x : X = get_or xs i d in
    ap (filter_map f) (sym (take-append-drop i xs) ∙ ap (λ l. take i xs ++ l) (drop_more xs i d low))
    ∙ (filter_map-append f (take i xs) (x ∷ drop (i + 1) xs)
    ∙ ap (λ l. filter_map f (take i xs) ++ l) (one_read (f x) (filter_map f (drop (i + 1) xs))))

-- the place of an item in a part of a list is a place in the list
pub deeper : {Y : Type 0} (front part first rest back : List Y) (y : Y) (all : List Y) → all ≡ front ++ (part ++ back)
    → part ≡ first ++ y ∷ rest
    → all ≡ (front ++ first) ++ y ∷ (rest ++ back)
deeper {Y} front part first rest back y all whole split =
    whole ∙ (ap (λ (l : List Y). front ++ (l ++ back)) split
    ∙ (ap (λ (l : List Y). front ++ l) (append_assoc first (y ∷ rest) back)
    ∙ sym (append_assoc front first (y ∷ (rest ++ back)))))
