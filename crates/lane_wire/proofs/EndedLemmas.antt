-- What lanes left, one after another.
use Rattle.std.proofs.Common.{◌≡◌, ◌∙◌, List, [], ◌∷◌, ◌++◌, map, ap, sym, subst, append-nil, append_assoc}
use Rattle.std.specs.List.{AllByRecursion}
use Rattle.std.proofs.lemmas.List.{map-append}

-- one more of these, which tells the same as the next of those
pub tells_more : {X Y Z : Type 0} (f : X → Z) (g : Y → Z) (old new : List X) (x : X) (left rest : List Y) (y : Y)
    (all : List Z) → new ≡ old ++ x ∷ [] → left ≡ y ∷ rest → f x ≡ g y → map f old ++ map g left ≡ all
    → map f new ++ map g rest ≡ all
tells_more {X} {Y} {Z} f g old new x left rest y all grew next same before =
    ap (λ (xs : List X). map f xs ++ map g rest) grew
    ∙ (ap (λ (zs : List Z). zs ++ map g rest) (map-append f old (x ∷ []))
    ∙ (append_assoc (map f old) (f x ∷ []) (map g rest)
    ∙ (ap (λ (z : Z). map f old ++ z ∷ map g rest) same
    ∙ (ap (λ (ys : List Y). map f old ++ map g ys) (sym next) ∙ before))))

-- where none of those is left, these tell the same as all
pub tell_all : {X Y Z : Type 0} (f : X → Z) (g : Y → Z) (these : List X) (left : List Y) (all : List Z) → left ≡ []
    → map f these ++ map g left ≡ all → map f these ≡ all
tell_all {X} {Y} f g these left all none told =
    sym (append-nil (map f these)) ∙ (ap (λ (ys : List Y). map f these ++ map g ys) (sym none) ∙ told)

all_and_one : {X : Type 0} (P : X → Type 0) (xs : List X) (x : X) → AllByRecursion P xs → P x
    → AllByRecursion P (xs ++ x ∷ [])
all_and_one P [] x all one = (one, tt)
all_and_one P (y ∷ ys) x all one = (all.0, all_and_one P ys x all.1 one)

-- one more of which it holds
pub holds_of_more : {X : Type 0} (P : X → Type 0) (old new : List X) (x : X) → new ≡ old ++ x ∷ []
    → AllByRecursion P old → P x → AllByRecursion P new
holds_of_more P old new x grew all one = subst (AllByRecursion P) (sym grew) (all_and_one P old x all one)
