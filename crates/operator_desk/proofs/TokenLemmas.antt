-- Tokens by their places.
use Rattle.std.proofs.Common.{◌≡◌, ℕ, zero, suc, ◌+◌, ◌<◌, ◌≤◌, List, [], ◌∷◌, ◌++◌, length, map, take, Some, None}
use Rattle.std.proofs.Common.{Option, refl, sym, ap, subst, ◌∙◌, arith, length-append}
use Rattle.std.specs.Prelude.{slice_get, slice_index_or, IfSome}
use Rattle.std.proofs.lemmas.List.{map-append, length-map}
use Rattle.std.specs.declared.sync.OnceToken.{OnceToken}
use Rattle.operator_desk.specs.Entry.{EntryOf}
use Rattle.operator_desk.specs.inner.Tokens.{marks, shown, shown_next, AreFirst, AreTokens, IsNext}

abbrev Token : Type 0
Token = OnceToken EntryOf

-- the first k of both show the same
abbrev pub Agree : ℕ → List Token → List Token → Type 0
Agree zero xs ys = Unit {0}
Agree (suc k) [] ys = ⊥
Agree (suc k) (x ∷ xs) [] = ⊥
Agree (suc k) (x ∷ xs) (y ∷ ys) = (x.value ≡ y.value) × Agree k xs ys

pub agree_more : (xs ys : List Token) (k : ℕ) (x y : Token) → Agree k xs ys → k < length xs → k < length ys
    → x ≡ slice_index_or xs k x → y ≡ slice_index_or ys k y → x.value ≡ y.value → Agree (suc k) xs ys
agree_more [] ys k x y ag few few2 hx hy same = absurd (omega arith)
agree_more (a ∷ xs) [] k x y ag few few2 hx hy same = absurd (omega arith)
agree_more (a ∷ xs) (b ∷ ys) zero x y ag few few2 hx hy same =
    (sym (ap (λ (t : Token). t.value) hx) ∙ same ∙ ap (λ (t : Token). t.value) hy, tt)
agree_more (a ∷ xs) (b ∷ ys) (suc k) x y ag few few2 hx hy same =
    (ag.0, agree_more xs ys k x y ag.1 (omega arith) (omega arith) hx hy same)

pub agree_all : (xs ys : List Token) → Agree (length xs) xs ys → shown xs ≡ take (length xs) (shown ys)
agree_all [] ys a = refl
agree_all (x ∷ xs) [] a = absurd a
agree_all (x ∷ xs) (y ∷ ys) a = λ i. a.0 i ∷ agree_all xs ys a.1 i

mark_in : (cells : List ℕ) (xs : List Token) (k : ℕ) (x : Token) → marks xs ≡ take (length xs) cells → k < length xs
    → x ≡ slice_index_or xs k x → slice_get cells k ≡ Some x.of
mark_in cells [] k x known few hx = absurd (omega arith)
mark_in [] (a ∷ xs) k x known few hx = absurd (cc known)
mark_in (c ∷ cells) (a ∷ xs) zero x known few hx =
    let head : a.of ≡ c = cc known in ap Some (sym head ∙ sym (ap (λ (t : Token). t.of) hx))
mark_in (c ∷ cells) (a ∷ xs) (suc k) x known few hx =
    let rest : marks xs ≡ take (length xs) cells = cc known in mark_in cells xs k x rest (omega arith) hx

-- the token at a place is of the cell at that place
pub mark_at : (cells : List ℕ) (xs : List Token) (k : ℕ) (x : Token) → AreFirst cells xs → k < length xs
    → x ≡ slice_index_or xs k x → slice_get cells k ≡ Some x.of
mark_at cells xs k x first few hx = mark_in cells xs k x first.known few hx

pub same_mark : (cells : List ℕ) (xs ys : List Token) (k : ℕ) (x y : Token) → AreFirst cells xs → AreFirst cells ys
    → k < length xs → k < length ys → x ≡ slice_index_or xs k x → y ≡ slice_index_or ys k y → x.of ≡ y.of
same_mark cells xs ys k x y a b few few2 hx hy =
    let one = mark_at cells xs k x a few hx in
    let other = mark_at cells ys k y b few2 hy in
    cc (sym one ∙ other)

-- one more element of a list that a function makes of tokens
pub take_next : {X : Type 0} (f : Token → X) (xs : List Token) (k : ℕ) (x : Token) → k < length xs
    → x ≡ slice_index_or xs k x → take (suc k) (map f xs) ≡ take k (map f xs) ++ f x ∷ []
take_next f [] k x few hx = absurd (omega arith)
take_next f (a ∷ xs) zero x few hx = λ i. f (sym hx i) ∷ []
take_next f (a ∷ xs) (suc k) x few hx = λ i. f a ∷ take_next f xs k x (omega arith) hx i

pub one_more : (k : ℕ) → suc k ≡ k + 1
one_more k = omega arith

take_next_cell : (cells : List ℕ) (n c : ℕ) → slice_get cells n ≡ Some c → take (suc n) cells ≡ take n cells ++ c ∷ []
take_next_cell [] n c at = absurd (cc at)
take_next_cell (d ∷ cells) zero c at = let same : d ≡ c = cc at in ap (λ x. x ∷ []) same
take_next_cell (d ∷ cells) (suc n) c at = ap (λ xs. d ∷ xs) (take_next_cell cells n c at)

pub is_there : (cells : List ℕ) (n c : ℕ) → slice_get cells n ≡ Some c → n + 1 ≤ length cells
is_there [] n c at = absurd (cc at)
is_there (d ∷ cells) zero c at = omega arith
is_there (d ∷ cells) (suc n) c at = let rest = is_there cells n c at in omega (arith, rest)

first-push : (cells : List ℕ) (xs : List Token) (t : Token) → AreFirst cells xs
    → slice_get cells (length xs) ≡ Some t.of → AreFirst cells (xs ++ t ∷ [])
first-push cells xs t first next =
    let longer = length-append xs (t ∷ []) in
    record {
      known =
          map-append (λ (u : Token). u.of) xs (t ∷ [])
          ∙ (ap (λ ms. ms ++ t.of ∷ []) first.known
          ∙ (sym (take_next_cell cells (length xs) t.of next)
          ∙ ap (λ n. take n cells) (one_more (length xs) ∙ sym longer)));
      few = omega (arith, longer, is_there cells (length xs) t.of next);
    }

pub none_shown : (next : Option Token) → shown_next next ≡ None → next ≡ None
none_shown None none = refl
none_shown (Some t) none = absurd (cc none)

-- one more token
pub tokens-push : (cells : List ℕ) (xs ys : List Token) (t : Token) (capacity capacity' : ℕ)
    (before after : Option Token)
    → AreTokens cells xs capacity before → slice_get cells (length xs) ≡ Some t.of → ys ≡ xs ++ t ∷ []
    → capacity' ≡ capacity → after ≡ None → AreTokens cells ys capacity' after
tokens-push cells xs ys t capacity capacity' before after tokens next is same none = record {
  first = subst (AreFirst cells) (sym is) (first-push cells xs t tokens.first next);
  few = subst (λ n. length cells ≤ n) (sym same) tokens.few;
  next = subst (λ o. IfSome o (IsNext cells ys)) (sym none) tt;
}

pub length-shown : (xs : List Token) → length (shown xs) ≡ length xs
length-shown xs = length-map xs (λ (u : Token). u.value)

pub shown-push : (xs ys : List Token) (t : Token) (e : EntryOf) → ys ≡ xs ++ t ∷ [] → t.value ≡ e
    → shown ys ≡ shown xs ++ e ∷ []
shown-push xs ys t e is value =
    ap shown is ∙ (map-append (λ (u : Token). u.value) xs (t ∷ []) ∙ ap (λ x. shown xs ++ x ∷ []) value)

-- tokens of the same cells
pub first_same : (cells : List ℕ) (xs ys : List Token) → marks ys ≡ marks xs → AreFirst cells xs → AreFirst cells ys
first_same cells xs ys same first =
    let many : length ys ≡ length xs =
    sym (length-map ys (λ (t : Token). t.of)) ∙ (ap length same ∙ length-map xs (λ (t : Token). t.of)) in
    record {
      known = same ∙ (first.known ∙ ap (λ n. take n cells) (sym many));
      few = subst (λ n. n ≤ length cells) (sym many) first.few;
    }
